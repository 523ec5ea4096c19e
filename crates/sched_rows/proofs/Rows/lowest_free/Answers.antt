-- `sched_rows::Rows::lowest_free` meets its contract: the jobs are asked from below.
use native.Mathlib.Omega.{arith}
use mathlib.Core.Path.{sym, ◌∙◌}
use Rattle.sched_state.specs.Scheduler.{open_at}
use Rattle.sched_rows.specs.Lent.{jobs_of}
use Rattle.sched_rows.proofs.Lowest.{lowest_here, lowest_nowhere}
use Rattle.sched_rows.proofs.Rows.lowest_free.Goals as goal

pub returns-then-not-open_at : goal.returns-then-not-open_at
returns-then-not-open_at c =
    lowest_here (open_at (jobs_of c.args.size c.args.self.now)) c.loop-j.j (omega arith) c.loop-j.invariant
    (sym c.open_at.ensures ∙ c.if-not-open_at.true)

pub returns : goal.returns
returns c = lowest_nowhere (open_at (jobs_of c.args.size c.args.self.now)) (λ k h. c.loop-j.invariant k (omega arith))
