-- Which jobs are restarted, and which job is free after a step (document 01, "The desk"). An ACK, a start and an end restart every job, and
-- restarting changes only a job that is in Match or awaits Commit; every move that finishes gives back a free job.
-- Assumes nothing.
use mathlib.Core.Path.{◌≡◌, refl, ap, ◌∙◌}
use mathlib.Core.Bool.{Bool, true, false, cond, false≢true}
use mathlib.Core.List.{List, [], ◌∷◌, map}
use Prim.Native.Nat.{ℕ, zero, suc}
use lib.Dec.{ltb}
use lib.ListN.{length, set, get_or-map}
use lib.Seq.{get_or-set_other}
use lib.IntN.{ℤ}
use Rattle.std.specs.Prelude.{Option, Some, None, Result, Ok, Err}
use Rattle.refusals.specs.declared.Refusal.{Refusal}
use Rattle.refusals.specs.declared.Discard.TheVariants as R
use Rattle.table_records.specs.Record.{Session}
use Rattle.table_slots.specs.Slot.{slot_count}
use Rattle.table_sessions.specs.Session.{insert_answer, remove_answer}
use Rattle.nas_settings.specs.Settings.{Settings}
use Rattle.sched_reread.specs.Reread.{holds_passed}
use Rattle.sched_reread.specs.Check.{store_judged}
use Rattle.das_answer.specs.declared.Answer as A'
use Rattle.das_answer.specs.declared.Answer.TheVariants as A
use Rattle.sched_job.specs.declared.Job as B
use Rattle.sched_job.specs.declared.Stage as S
use Rattle.sched_job.specs.declared.Stage.TheVariants.{Free, Hash, Check, Match}
use Rattle.sched_job.specs.declared.Moved as M
use Rattle.sched_job.specs.Job.{free_job, restarted}
use Rattle.sched_job.specs.Moves.{going, done, checked_as, check_move, match_job, commit_move, slot_move, moved_at, moved}
use Rattle.sched_state.specs.declared.Scheduler as D
use Rattle.sched_state.specs.Scheduler.{settings_of, job_at, open_at, with_job, restart_all, part_of}
use Rattle.sched_state.specs.Refusals.{step_refusal}
use Rattle.sched_state.specs.Calls.{unless_refused, is_ack, stepped_as, moved_of, step_called, start_called, end_called}
use Rattle.sched_state.specs.Runs.{Step, Start, End, World, call}
use Rattle.thm_serial.specs.Demand3.{finished_by}
use Rattle.thm_serial.specs.Steps.{acks}

all_again : (js : List B.Job) (i : ℕ) → job_at (map restarted js) i ≡ restarted (job_at js i)
unfolding restarted
all_again js i = get_or-map restarted js i free_job

-- ---- an ACK

module _ (s : D.Scheduler) (j i : ℕ) (other : i ≡ j → ⊥) (m : M.Moved) where
  ack_by_lem : (x : Bool) → x ≡ true → job_at (cond x (restart_all (with_job s j m.job)) (with_job s j m.job)).jobs i ≡ restarted (job_at s.jobs i)
  ack_by_lem true h = all_again (set s.jobs j m.job) i ∙ ap restarted (get_or-set_other s.jobs j i m.job free_job other)
  ack_by_lem false h = absurd (false≢true h)

  ending_by : (e : Option A'.Answer) → acks (stepped_as s j m e).outcome ≡ true
      → job_at (stepped_as s j m e).scheduler.jobs i ≡ restarted (job_at s.jobs i)
  ending_by None h = absurd (false≢true h)
  ending_by (Some a) h = ack_by_lem (is_ack a) h

  step_by : (x : Option Refusal) (e : Option A'.Answer) → acks (unless_refused s x (stepped_as s j m e)).outcome ≡ true
      → job_at (unless_refused s x (stepped_as s j m e)).scheduler.jobs i ≡ restarted (job_at s.jobs i)
  step_by None e h = ending_by e h
  step_by (Some r) e h = absurd (false≢true h)

pub ack_restarts : (j : ℕ) (w : World) (b : List ℕ) → acks (call (Step j b) w).out.outcome ≡ true
    → (i : ℕ) → (i ≡ j → ⊥) → job_at (call (Step j b) w).world.scheduler.jobs i ≡ restarted (job_at w.scheduler.jobs i)
unfolding call step_called
ack_restarts j w b h i other =
    let s = w.scheduler in
    let m = moved_of s j w.table w.store in
    step_by s j i other m (step_refusal (open_at s.jobs) (length w.store) j w.table b) m.ending h

-- ---- a start and an end

pub start_restarts : (x : Session) (w : World) (k : ℕ) → insert_answer x w.table ≡ Ok k
    → (i : ℕ) → job_at (call (Start x) w).world.scheduler.jobs i ≡ restarted (job_at w.scheduler.jobs i)
unfolding call start_called
start_restarts x w k h i = rw h (all_again w.scheduler.jobs i)

pub end_restarts : (k : ℕ) (w : World) → remove_answer k w.table ≡ Ok tt
    → (i : ℕ) → job_at (call (End k) w).world.scheduler.jobs i ≡ restarted (job_at w.scheduler.jobs i)
unfolding call end_called
end_restarts k w h i = rw h (all_again w.scheduler.jobs i)

-- ---- a finished step frees its job

-- of a move that finishes, the job is free
abbrev Freed : Option A'.Answer → B.Job → Type 0
Freed None x = Unit {0}
Freed (Some a) x = x ≡ free_job

check_freed : (j : B.Job) (v : Result ℤ A'.Answer) → Freed (checked_as j v).ending (checked_as j v).job
check_freed j (Err a) = refl
check_freed j (Ok k) = tt

slot_freed : (j : B.Job) (k : ℕ) (q t : List ℕ) (x y : Bool)
    → Freed (cond x (cond y (going (match_job j k q t)) (commit_move j q t)) (done (A.Discarded R.Length))).ending
    (cond x (cond y (going (match_job j k q t)) (commit_move j q t)) (done (A.Discarded R.Length))).job
unfolding commit_move
slot_freed j k q t true true = tt
slot_freed j k q t true false = refl
slot_freed j k q t false y = refl

at_freed : (g : Settings) (x : S.Stage) (j : B.Job) (q t : List ℕ) → Freed (moved_at g x j q t).ending (moved_at g x j q t).job
unfolding check_move slot_move
at_freed g Free j q t = tt
at_freed g (Hash k) j q t = tt
at_freed g Check j q t = check_freed j (store_judged g j.words j.length j.clock q)
at_freed g (Match k) j q t = slot_freed j k q t (holds_passed g j.length q) (ltb k (slot_count t))

moved_freed : (g : Settings) (j : B.Job) (q t : List ℕ) → Freed (moved g j q t).ending (moved g j q t).job
unfolding moved
moved_freed g j q t = at_freed g j.stage j q t

put_free : (js : List B.Job) (j : ℕ) → job_at (set js j free_job) j ≡ free_job
put_free [] j = refl
put_free (x ∷ js) zero = refl
put_free (x ∷ js) (suc j) = put_free js j

module _ (s : D.Scheduler) (j : ℕ) (m : M.Moved) where
  freed_ack : (x : Bool) → m.job ≡ free_job → job_at (cond x (restart_all (with_job s j m.job)) (with_job s j m.job)).jobs j ≡ free_job
  unfolding restarted
  freed_ack true e = rw e (all_again (set s.jobs j free_job) j ∙ ap restarted (put_free s.jobs j))
  freed_ack false e = rw e (put_free s.jobs j)

  -- a step finished, so its answer is no refusal of the call
  freed_by : (e : Option A'.Answer) → Freed e m.job → finished_by (stepped_as s j m e).outcome ≡ true
      → job_at (stepped_as s j m e).scheduler.jobs j ≡ free_job
  freed_by None f h = absurd (false≢true h)
  freed_by (Some a) f h = freed_ack (is_ack a) f

  freed_step : (x : Option Refusal) (e : Option A'.Answer) → Freed e m.job → finished_by (unless_refused s x (stepped_as s j m e)).outcome ≡ true
      → job_at (unless_refused s x (stepped_as s j m e)).scheduler.jobs j ≡ free_job
  freed_step None e f h = freed_by e f h
  freed_step (Some r) e f h = absurd (false≢true h)

pub done_frees : (j : ℕ) (w : World) (b : List ℕ) → finished_by (call (Step j b) w).out.outcome ≡ true
    → job_at (call (Step j b) w).world.scheduler.jobs j ≡ free_job
unfolding call step_called
done_frees j w b h =
    let s = w.scheduler in
    let m = moved_of s j w.table w.store in
    freed_step s j m (step_refusal (open_at s.jobs) (length w.store) j w.table b) m.ending
    (moved_freed (settings_of s) (job_at s.jobs j) (part_of j w.store) w.table) h
