-- The arrays that each call leaves read as the scheduler that the call's definition gives, and have the sizes of C's types: by the cases of the
-- definition, each of which keeps the arrays, or writes one job's row, restarts all jobs, or both.
-- Assumes nothing.
use mathlib.Core.Bool.{Bool, true, false, cond}
use mathlib.Core.List.{List}
use mathlib.Core.Path.{◌≡◌, refl, sym, ap, ◌∙◌}
use Prim.Native.Nat.{ℕ}
use lib.ListN.{length}
use Rattle.std.specs.Prelude.{Option, Some, None, Result, Ok, Err}
use Rattle.refusals.specs.declared.Refusal.{Refusal}
use Rattle.refusals.specs.declared.Discard.{Discard}
use Rattle.table_records.specs.Record.{Session}
use Rattle.table_sessions.specs.Session.{insert_answer, remove_answer}
use Rattle.das_answer.specs.declared.Answer as A
use Rattle.packet_form.specs.Packet.{length_of}
use Rattle.packet_form.specs.Discards.{form_of}
use Rattle.sched_job.specs.declared.Job as B
use Rattle.sched_job.specs.declared.Moved as M
use Rattle.sched_job.specs.Job.{free_job, first_job}
use Rattle.sched_state.specs.declared.Scheduler as D
use Rattle.sched_state.specs.declared.Called as C
use Rattle.sched_state.specs.declared.Outcome.TheVariants.{Done, Dropped}
use Rattle.sched_state.specs.Scheduler.{open_at, lowest_free, with_job, restart_all, Ours}
use Rattle.sched_state.specs.Refusals.{open_refusal, step_refusal, drop_refusal}
use Rattle.sched_state.specs.Calls.{called, unless_refused, opened_as, is_ack, stepped_as, moved_of}
use Rattle.sched_state.specs.Calls.{open_called, step_called, drop_called, started_as, start_called, ended_as, end_called}
use Rattle.sched_rows.specs.Layout.{Held, scheduler_in}
use Rattle.sched_rows.specs.Left.{put_job, restart_held, left_by, open_left, step_left, drop_left, start_left, end_left}
use Rattle.sched_rows.proofs.ReadOurs.{read_ours}
use Rattle.thm_serial.proofs.OurSchedulers.{open_ours, step_ours, drop_ours}
use Rattle.thm_corollaries.proofs.Arrays.{Fits, fits_put, fits_again, again_reads, put_ours, again_ours, put_reads}

-- h is what a call left that gave c
pub record Reads (h : Held) (c : C.Called) : Type 0 where
  pub is : scheduler_in h ≡ c.scheduler
  pub fits : Fits h

module _ (h : Held) (f : Fits h) where
  abbrev s : D.Scheduler
  s = scheduler_in h

  pub ours : Ours s
  ours = read_ours h f.secret f.nas_id

  -- ---- Open

  open_by : (p : List ℕ) (clock : ℕ) (r : Option Refusal) (d : Option Discard) → Ours (unless_refused s r (opened_as s p clock d)).scheduler
      → Reads (left_by (unless_refused s r (opened_as s p clock d)).outcome 0 (first_job (length_of p) clock) h)
      (unless_refused s r (opened_as s p clock d))
  unfolding left_by
  open_by p clock None None o =
      let j = lowest_free (open_at s.jobs) in
      let b = first_job (length_of p) clock in
      record { is = put_reads h f j b (put_ours h f j b o); fits = fits_put h f j b }
  open_by p clock None (Some d) o = record { is = refl; fits = f }
  open_by p clock (Some r) d o = record { is = refl; fits = f }

  pub open_reads : (p : List ℕ) (clock : ℕ) (store : List ℕ) → Reads (open_left h p clock store) (open_called s p clock store)
  unfolding open_called
  open_reads p clock store =
      open_by p clock (open_refusal (open_at s.jobs) (length store)) (form_of p) (open_ours s ours p clock store)

  -- ---- Step

  ack_by_lem : (x : Bool) (b : B.Job) (j : ℕ) (a : A.Answer) → is_ack a ≡ x → Ours (cond x (restart_all (with_job s j b)) (with_job s j b))
      → Reads (cond x (restart_held (put_job h j b)) (put_job h j b)) (called (cond x (restart_all (with_job s j b)) (with_job s j b)) (Done a))
  ack_by_lem true b j a e o =
      record {
        is = again_reads (put_job h j b) (fits_put h f j b) ∙ ap restart_all (put_reads h f j b (again_ours h f j b o));
        fits = fits_again (put_job h j b) (fits_put h f j b);
      }
  ack_by_lem false b j a e o = record { is = put_reads h f j b (put_ours h f j b o); fits = fits_put h f j b }

  ending_by : (j : ℕ) (m : M.Moved) (e : Option A.Answer) → Ours (stepped_as s j m e).scheduler
      → Reads (left_by (stepped_as s j m e).outcome j m.job h) (stepped_as s j m e)
  unfolding left_by
  ending_by j m None o = record { is = put_reads h f j m.job (put_ours h f j m.job o); fits = fits_put h f j m.job }
  ending_by j m (Some a) o = ack_by_lem (is_ack a) m.job j a refl o

  step_by : (r : Option Refusal) (j : ℕ) (m : M.Moved) → Ours (unless_refused s r (stepped_as s j m m.ending)).scheduler
      → Reads (left_by (unless_refused s r (stepped_as s j m m.ending)).outcome j m.job h) (unless_refused s r (stepped_as s j m m.ending))
  unfolding left_by
  step_by None j m o = ending_by j m m.ending o
  step_by (Some r) j m o = record { is = refl; fits = f }

  pub step_reads : (j : ℕ) (t b store : List ℕ) → Reads (step_left h j t b store) (step_called s j t b store)
  unfolding step_called
  step_reads j t b store = step_by (step_refusal (open_at s.jobs) (length store) j t b) j (moved_of s j t store) (step_ours s ours j t b store)

  -- ---- Drop, Start, End

  drop_by : (r : Option Refusal) (j : ℕ) → Ours (unless_refused s r (called (with_job s j free_job) Dropped)).scheduler
      → Reads (left_by (unless_refused s r (called (with_job s j free_job) Dropped)).outcome j free_job h)
      (unless_refused s r (called (with_job s j free_job) Dropped))
  unfolding left_by
  drop_by None j o = record { is = put_reads h f j free_job (put_ours h f j free_job o); fits = fits_put h f j free_job }
  drop_by (Some r) j o = record { is = refl; fits = f }

  pub drop_reads : (j : ℕ) → Reads (drop_left h j) (drop_called s j)
  unfolding drop_called
  drop_reads j = drop_by (drop_refusal (open_at s.jobs) j) j (drop_ours s ours j)

  again : (c : C.Called) → c.scheduler ≡ restart_all s → Reads (restart_held h) c
  again c e = record { is = again_reads h f ∙ sym e; fits = fits_again h f }

  start_by : (v : Result ℕ Refusal) → Reads (left_by (started_as s v).outcome 0 free_job h) (started_as s v)
  unfolding left_by
  start_by (Ok k) = again (started_as s (Ok k)) refl
  start_by (Err r) = record { is = refl; fits = f }

  pub start_reads : (x : Session) (t : List ℕ) → Reads (start_left h x t) (start_called s x t)
  unfolding start_called
  start_reads x t = start_by (insert_answer x t)

  end_by : (v : Result (Unit {0}) Refusal) → Reads (left_by (ended_as s v).outcome 0 free_job h) (ended_as s v)
  unfolding left_by
  end_by (Ok x) = again (ended_as s (Ok x)) refl
  end_by (Err r) = record { is = refl; fits = f }

  pub end_reads : (k : ℕ) (t : List ℕ) → Reads (end_left h k t) (end_called s k t)
  unfolding end_called
  end_reads k t = end_by (remove_answer k t)
