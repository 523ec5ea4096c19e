-- `sched_start::start` meets its contract: a session that is in sends the jobs back to slot 0, a refusal does not.
use borrow.Author.Rules.{rules}
use Rattle.sched_start.proofs.Tables.{start_number, start_slot, slot_small, start_left_lem, start_refused, start_kept, start_same}
use Rattle.sched_start.proofs.start.Goals as goal

pub overflow_cast-slot : goal.overflow_cast-slot
overflow_cast-slot c = search (rules, slot_small)

pub returns-in-Ok-clause-value : goal.returns-in-Ok-clause-value
returns-in-Ok-clause-value c = search (rules, start_number)

pub returns-in-Ok-clause-marks_after : goal.returns-in-Ok-clause-marks_after
returns-in-Ok-clause-marks_after c = search (rules, start_left_lem)

pub returns-in-Ok-clause-slot_after : goal.returns-in-Ok-clause-slot_after
returns-in-Ok-clause-slot_after c = search (rules, start_slot)

pub returns-in-Err-clause-value : goal.returns-in-Err-clause-value
returns-in-Err-clause-value c = search (rules, start_refused)

pub returns-in-Err-clause-marks_after : goal.returns-in-Err-clause-marks_after
returns-in-Err-clause-marks_after c = search (rules, start_kept)

pub returns-in-Err-clause-slot_after : goal.returns-in-Err-clause-slot_after
returns-in-Err-clause-slot_after c = search (rules, start_same)
