-- `sched_rows::Rows::lowest_free`: each job below j is open.
use Rattle.std.proofs.Common.{◌≡◌, ◌<◌, ℕ, true}
use Rattle.sched_state.specs.Scheduler.{open_at}
use Rattle.sched_rows.specs.Lent.{jobs_of}
use Rattle.sched_rows.proofs.Rows.lowest_free.Given as goal

abbrev pub invariant-loop-j : goal.invariant-loop-j
invariant-loop-j l = (k : ℕ) → k < l.j → open_at (jobs_of l.size l.self) k ≡ true
