-- A drop: R7 for a number above 3 and for a free job, which leaves all as it was; else the job's rows are those of a free one.
-- Assumes nothing.
use mathlib.Core.Path.{◌≡◌}
use mathlib.Core.Bool.{Bool, true, false}
use mathlib.Core.List.{List}
use Prim.Native.Nat.{ℕ, ◌≤◌, ◌<◌}
use borrow.Author.Tests.{lt-ltb, le-ltb}
use native.Mathlib.Omega.{arith}
use lib.ListN.{set}
use Rattle.sched_job.specs.declared.Job.{Job}
use Rattle.sched_job.specs.Job.{free_job}
use Rattle.sched_state.specs.declared.Scheduler.{Scheduler}
use Rattle.sched_state.specs.Scheduler.{open_at}
use Rattle.sched_state.specs.Refusals.{drop_refusal}
use Rattle.sched_state.specs.Calls.{drop_called}
use Rattle.sched_rows.specs.Layout.{Held, held, kind_row, place_row, secret_in, jobs_in, scheduler_in}
use Rattle.sched_rows.specs.Left.{left_by, drop_left}
use Rattle.c_numbers.specs.Numbers.{answer_told}
use Rattle.c_told.specs.Told.{number_by, told_by}

pub above_number : (s : Scheduler) (j : ℕ) → 4 ≤ j → (v : ℕ) → v ≡ 7 → v ≡ number_by (drop_called s j).outcome
unfolding drop_called drop_refusal number_by told_by answer_told
above_number s j h v e = rw (lt-ltb 3 j (omega arith), e)

pub above_left : (h : Held) (j : ℕ) → 4 ≤ j → h ≡ drop_left h j
unfolding drop_called drop_refusal left_by
above_left h j l = rw (lt-ltb 3 j (omega arith))

module _ (ws ks ps ms : List (List ℕ)) (secret : List ℕ) (size nas_ip : ℕ) (nas_id : List ℕ) (label z j : ℕ) (b : Bool)
    (read : z ≡ secret_in size) (is : b ≡ open_at (jobs_in z ws ks ps ms) j) (low : j < 4) where
  abbrev before : Held
  before = held ws ks ps ms secret size nas_ip nas_id label

  pub free_number : b ≡ false → (v : ℕ) → v ≡ 7 → v ≡ number_by (drop_called (scheduler_in before) j).outcome
  unfolding drop_called drop_refusal number_by told_by answer_told
  free_number h v e = rw (le-ltb 3 j (omega arith), ← read, ← is, h, e)

  pub free_left : b ≡ false → before ≡ drop_left before j
  unfolding drop_called drop_refusal left_by
  free_left h = rw (le-ltb 3 j (omega arith), ← read, ← is, h)

  pub open_number : b ≡ true → 0 ≡ number_by (drop_called (scheduler_in before) j).outcome
  unfolding drop_called drop_refusal number_by told_by answer_told
  open_number h = rw (le-ltb 3 j (omega arith), ← read, ← is, h)

  pub open_left_lem : b ≡ true → (ws' ks' ps' ms' : List (List ℕ)) (x : Job) → x ≡ free_job
      → ws' ≡ set ws j x.words → ks' ≡ set ks j (kind_row x) → ps' ≡ set ps j (place_row x) → ms' ≡ set ms j x.marks
      → held ws' ks' ps' ms' secret size nas_ip nas_id label ≡ drop_left before j
  unfolding drop_called drop_refusal left_by
  open_left_lem h ws' ks' ps' ms' x free ew ek ep em = rw (le-ltb 3 j (omega arith), ← read, ← is, h, ew, ek, ep, em, free)
