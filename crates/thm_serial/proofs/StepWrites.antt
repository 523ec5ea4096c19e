-- What a step writes (document 01, "The desk"), whatever was written to table and store before it: by the definition of a step only a Commit that
-- ends in ACK writes the table, only a step that finishes in ACK or NAK writes the reply buffer, and none writes the store.
-- Assumes nothing.
use mathlib.Core.Path.{◌≡◌, refl, sym, ◌∙◌}
use mathlib.Core.Bool.{false, cond, true≢false}
use mathlib.Core.List.{List}
use Prim.Native.Nat.{ℕ}
use lib.ListN.{length}
use Rattle.std.specs.Prelude.{Option, Some, None, is_none}
use Rattle.refusals.specs.declared.Refusal.{Refusal}
use Rattle.das_answer.specs.declared.Answer as A'
use Rattle.das_answer.specs.declared.Answer.TheVariants as A
use Rattle.das_answer.specs.Replies.{reply_as}
use Rattle.sched_job.specs.declared.Job as B
use Rattle.sched_job.specs.declared.Moved as M
use Rattle.sched_job.specs.Moves.{moved, moved_table, reply_after}
use Rattle.sched_state.specs.declared.Scheduler as D
use Rattle.sched_state.specs.declared.Called as C
use Rattle.sched_state.specs.Scheduler.{settings_of, job_at, open_at, part_of}
use Rattle.sched_state.specs.Refusals.{step_refusal}
use Rattle.sched_state.specs.Calls.{unless_refused, stepped_as, moved_of, step_called, step_table, step_reply}
use Rattle.sched_state.specs.Runs.{Step, World, call}
use Rattle.thm_serial.specs.Steps.{replied, acks, replies, awaits}
use Rattle.thm_serial.proofs.MoveWrites.{acked, stage_kept, stage_early}

-- ---- a step; j the job, b the reply buffer

module _ (s : D.Scheduler) (j : ℕ) (t b store : List ℕ) where
  abbrev here : B.Job
  here = job_at s.jobs j

  abbrev shown : Option Refusal → C.Called
  shown f = unless_refused s f (stepped_as s j (moved_of s j t store) (moved_of s j t store).ending)

  acks_by : (m : M.Moved) (e : Option A'.Answer) → acks (stepped_as s j m e).outcome ≡ acked e
  acks_by m None = refl
  acks_by m (Some a) = refl

  table_by : (f : Option Refusal) → acks (shown f).outcome ≡ false → cond (is_none f) (moved_table (settings_of s) here (part_of j store) t) t ≡ t
  unfolding moved moved_table
  table_by None h =
      stage_kept (part_of j store) t (settings_of s) here here.stage (sym (acks_by (moved_of s j t store) (moved_of s j t store).ending) ∙ h)
  table_by (Some r) h = refl

  early_by : (f : Option Refusal) → awaits here.stage t ≡ false → cond (is_none f) (moved_table (settings_of s) here (part_of j store) t) t ≡ t
  unfolding moved_table
  early_by None h = stage_early (part_of j store) t (settings_of s) here here.stage h
  early_by (Some r) h = refl

  reply_as_lem : (q : List ℕ) (a : A'.Answer) → replied a ≡ false → reply_as (settings_of s).secret q b a ≡ b
  reply_as_lem q (A.Refused r) h = refl
  reply_as_lem q (A.Discarded d) h = refl
  reply_as_lem q (A.Stale skew) h = refl
  reply_as_lem q (A.Nak c skew n) h = absurd (true≢false h)
  reply_as_lem q (A.Ack k skew n) h = absurd (true≢false h)

  reply_after_lem : (m : M.Moved) (e : Option A'.Answer) → replies (stepped_as s j m e).outcome ≡ false
      → reply_after (settings_of s).secret (part_of j store) b e ≡ b
  reply_after_lem m None h = refl
  reply_after_lem m (Some a) h = reply_as_lem (part_of j store) a h

  reply_by : (f : Option Refusal) → replies (shown f).outcome ≡ false
      → cond (is_none f) (reply_after (settings_of s).secret (part_of j store) b (moved_of s j t store).ending) b ≡ b
  reply_by None h = reply_after_lem (moved_of s j t store) (moved_of s j t store).ending h
  reply_by (Some r) h = refl

module _ (j : ℕ) (b : List ℕ) (w : World) where
  abbrev refusal : Option Refusal
  refusal = step_refusal (open_at w.scheduler.jobs) (length w.store) j w.table b

  -- a step that does not end in ACK leaves the table
  pub only_ack : acks (call (Step j b) w).out.outcome ≡ false → (call (Step j b) w).world.table ≡ w.table
  unfolding call step_called step_table
  only_ack = table_by w.scheduler j w.table b w.store refusal

  -- so does a step of a job that does not await Commit
  pub only_commit : awaits (job_at w.scheduler.jobs j).stage w.table ≡ false → (call (Step j b) w).world.table ≡ w.table
  unfolding call step_table
  only_commit = early_by w.scheduler j w.table b w.store refusal

  -- a step that does not end in ACK or NAK leaves the reply buffer
  pub only_replies : replies (call (Step j b) w).out.outcome ≡ false → (call (Step j b) w).out.reply ≡ b
  unfolding call step_called step_reply
  only_replies = reply_by w.scheduler j w.table b w.store refusal

  -- every step leaves the store
  pub step_store : (call (Step j b) w).world.store ≡ w.store
  unfolding call
  step_store = refl
