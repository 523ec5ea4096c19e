-- `sched_start::end` meets its contract: a session that is gone sends the jobs back to slot 0, a refusal does not.
use borrow.Author.Rules.{rules}
use Rattle.sched_start.proofs.Tables.{end_number, end_left_lem, end_refused, end_kept}
use Rattle.sched_start.proofs.end.Goals as goal

pub returns-in-Ok-clause-value : goal.returns-in-Ok-clause-value
returns-in-Ok-clause-value c = search (rules, end_number)

pub returns-in-Ok-clause-marks_after : goal.returns-in-Ok-clause-marks_after
returns-in-Ok-clause-marks_after c = search (rules, end_left_lem)

pub returns-in-Err-clause-value : goal.returns-in-Err-clause-value
returns-in-Err-clause-value c = search (rules, end_refused)

pub returns-in-Err-clause-marks_after : goal.returns-in-Err-clause-marks_after
returns-in-Err-clause-marks_after c = search (rules, end_kept)
