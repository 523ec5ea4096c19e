-- Which jobs a call leaves alone (document 01, "The desk"), whatever was written to table and store. By the definition of a step only an ACK
-- restarts others: a step that goes on, a NAK, a discard and a refused step change no job but their own. A drop changes nothing but its job.
-- Assumes nothing.
use mathlib.Core.Path.{◌≡◌, refl}
use mathlib.Core.Bool.{false, cond, true≢false}
use mathlib.Core.List.{List}
use Prim.Native.Nat.{ℕ}
use lib.ListN.{length}
use lib.Seq.{get_or-set_other}
use Rattle.std.specs.Prelude.{Option, Some, None}
use Rattle.refusals.specs.declared.Refusal.{Refusal}
use Rattle.das_answer.specs.declared.Answer as A'
use Rattle.das_answer.specs.declared.Answer.TheVariants as A
use Rattle.sched_job.specs.declared.Moved as M
use Rattle.sched_job.specs.Job.{free_job}
use Rattle.sched_state.specs.declared.Scheduler as D
use Rattle.sched_state.specs.declared.Outcome.TheVariants as O
use Rattle.sched_state.specs.Scheduler.{settings_of, job_at, open_at, with_job, restart_all}
use Rattle.sched_state.specs.Refusals.{step_refusal, drop_refusal}
use Rattle.sched_state.specs.Calls.{called, unless_refused, is_ack, stepped_as, moved_of, step_called, drop_called}
use Rattle.sched_state.specs.Runs.{Step, Drop, World, call}
use Rattle.thm_serial.specs.Steps.{acks}

-- ---- one job of the scheduler written anew; i is another

module _ (s : D.Scheduler) (j i : ℕ) (other : i ≡ j → ⊥) where
  module _ (m : M.Moved) where
    by_answer : (a : A'.Answer) → is_ack a ≡ false
        → job_at (cond (is_ack a) (restart_all (with_job s j m.job)) (with_job s j m.job)).jobs i ≡ job_at s.jobs i
    by_answer (A.Refused r) h = get_or-set_other s.jobs j i m.job free_job other
    by_answer (A.Discarded d) h = get_or-set_other s.jobs j i m.job free_job other
    by_answer (A.Stale skew) h = get_or-set_other s.jobs j i m.job free_job other
    by_answer (A.Nak c skew n) h = get_or-set_other s.jobs j i m.job free_job other
    by_answer (A.Ack k skew n) h = absurd (true≢false h)

    by_ending : (e : Option A'.Answer) → acks (stepped_as s j m e).outcome ≡ false → job_at (stepped_as s j m e).scheduler.jobs i ≡ job_at s.jobs i
    by_ending None h = get_or-set_other s.jobs j i m.job free_job other
    by_ending (Some a) h = by_answer a h

    by_step : (x : Option Refusal) (e : Option A'.Answer) → acks (unless_refused s x (stepped_as s j m e)).outcome ≡ false
        → job_at (unless_refused s x (stepped_as s j m e)).scheduler.jobs i ≡ job_at s.jobs i
    by_step None e h = by_ending e h
    by_step (Some r) e h = refl

  by_drop : (x : Option Refusal) → job_at (unless_refused s x (called (with_job s j free_job) O.Dropped)).scheduler.jobs i ≡ job_at s.jobs i
  by_drop None = get_or-set_other s.jobs j i free_job free_job other
  by_drop (Some r) = refl

made_by : (s : D.Scheduler) (j : ℕ) (x : Option Refusal)
    → settings_of (unless_refused s x (called (with_job s j free_job) O.Dropped)).scheduler ≡ settings_of s
made_by s j None = refl
made_by s j (Some r) = refl

-- ---- the calls

module _ (j : ℕ) (w : World) where
  -- a step that does not end in ACK restarts nobody
  pub step_others : (b : List ℕ) → acks (call (Step j b) w).out.outcome ≡ false → (i : ℕ) → (i ≡ j → ⊥)
      → job_at (call (Step j b) w).world.scheduler.jobs i ≡ job_at w.scheduler.jobs i
  unfolding call step_called
  step_others b h i other =
      let s = w.scheduler in
      by_step s j i other (moved_of s j w.table w.store) (step_refusal (open_at s.jobs) (length w.store) j w.table b)
      (moved_of s j w.table w.store).ending h

  -- nor does a drop
  pub drop_others : (i : ℕ) → (i ≡ j → ⊥) → job_at (call (Drop j) w).world.scheduler.jobs i ≡ job_at w.scheduler.jobs i
  unfolding call drop_called
  drop_others i other = by_drop w.scheduler j i other (drop_refusal (open_at w.scheduler.jobs) j)

  -- and it leaves what the scheduler was made with, table and store
  pub drop_made : settings_of (call (Drop j) w).world.scheduler ≡ settings_of w.scheduler
  unfolding call drop_called
  drop_made = made_by w.scheduler j (drop_refusal (open_at w.scheduler.jobs) j)

  pub drop_table : (call (Drop j) w).world.table ≡ w.table
  unfolding call
  drop_table = refl

  pub drop_store : (call (Drop j) w).world.store ≡ w.store
  unfolding call
  drop_store = refl
