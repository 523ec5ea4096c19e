-- `sched_step::moves::settled` meets its contract: the job's rows are written, and after an ACK all are restarted.
use borrow.Author.Rules.{rules}
use Rattle.sched_step.proofs.Moving.{places_ack, places_not, marks_ack, marks_not}
use Rattle.sched_step.proofs.moves.settled.Goals as goal

pub returns-then-acked-clause-places_after : goal.returns-then-acked-clause-places_after
returns-then-acked-clause-places_after c = search (rules, places_ack)

pub returns-then-acked-clause-marks_after : goal.returns-then-acked-clause-marks_after
returns-then-acked-clause-marks_after c = search (rules, marks_ack)

pub returns-else-acked-clause-places_after : goal.returns-else-acked-clause-places_after
returns-else-acked-clause-places_after c = search (rules, places_not)

pub returns-else-acked-clause-marks_after : goal.returns-else-acked-clause-marks_after
returns-else-acked-clause-marks_after c = search (rules, marks_not)
