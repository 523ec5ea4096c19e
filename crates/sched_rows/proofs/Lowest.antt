-- The lowest free job: each job below it was asked and is open, and it is not; there is none where all four are open.
-- Assumes nothing.
use mathlib.Core.Path.{◌≡◌}
use mathlib.Core.Bool.{Bool, true, false}
use mathlib.Core.List.{List}
use native.Mathlib.Omega.{arith}
use Prim.Native.Nat.{ℕ, zero, suc, ◌<◌}
use Rattle.std.specs.Prelude.{Some, None}
use Rattle.sched_job.specs.declared.Job.{Job}
use Rattle.sched_job.specs.Job.{is_open}
use Rattle.sched_state.specs.Scheduler.{job_at, open_at, lowest_free}
use Rattle.sched_rows.specs.Lent.{below_four}

pub open_read : (js : List Job) (j : ℕ) (x : Job) (b : Bool) → x ≡ job_at js j → b ≡ is_open x.stage → b ≡ open_at js j
unfolding open_at
open_read js j x b read is = rw (is, read)

module _ (f : ℕ → Bool) where
  pub lowest_here : (j : ℕ) → j < 4 → ((k : ℕ) → k < j → f k ≡ true) → f j ≡ false → Some j ≡ below_four (lowest_free f)
  unfolding lowest_free
  lowest_here zero h below is = rw is
  lowest_here (suc zero) h below is = rw (below 0 (omega arith), is)
  lowest_here (suc (suc zero)) h below is = rw (below 0 (omega arith), below 1 (omega arith), is)
  lowest_here (suc (suc (suc zero))) h below is = rw (below 0 (omega arith), below 1 (omega arith), below 2 (omega arith), is)
  lowest_here (suc (suc (suc (suc j)))) h below is = absurd (omega arith)

  pub lowest_nowhere : ((k : ℕ) → k < 4 → f k ≡ true) → None ≡ below_four (lowest_free f)
  unfolding lowest_free
  lowest_nowhere all = rw (all 0 (omega arith), all 1 (omega arith), all 2 (omega arith), all 3 (omega arith))
