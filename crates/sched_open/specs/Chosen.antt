-- For an inner contract: the job of a request that R5 and R6 leave, by which jobs are open and the size of the store.
-- Assumes nothing.
use Rattle.std.specs.Prelude.{◌≡◌, ◌<◌, Bool, ℕ, None}
use Rattle.sched_state.specs.Scheduler.{lowest_free}
use Rattle.sched_state.specs.Refusals.{open_refusal}

-- nothing refuses, and it is the lowest free job, one of four
pub record Given (f : ℕ → Bool) (size j : ℕ) : Type 0 where
  pub none : open_refusal f size ≡ None
  pub long : size ≡ 16384
  pub lowest : j ≡ lowest_free f
  pub below : j < 4
