-- `sched_rows::writing::restart` meets its contract: a job of kind 3 has its place and marks written, any other nothing.
use borrow.Author.Rules.{rules}
use Rattle.table_slots.specs.Marks.{no_marks}
use Rattle.sched_rows.proofs.Restarts.{place_set, mark_set, place-not, mark_not}
use Rattle.sched_rows.proofs.writing.restart.Goals as goal

pub returns-then-kinds-j-eq3-clause-places_after : goal.returns-then-kinds-j-eq3-clause-places_after
unfolding no_marks
returns-then-kinds-j-eq3-clause-places_after c = search (rules, place_set)

pub returns-then-kinds-j-eq3-clause-marks_after : goal.returns-then-kinds-j-eq3-clause-marks_after
unfolding no_marks
returns-then-kinds-j-eq3-clause-marks_after c = search (rules, mark_set)

pub returns-clause-places_after : goal.returns-clause-places_after
returns-clause-places_after c = search (rules, place-not)

pub returns-clause-marks_after : goal.returns-clause-marks_after
returns-clause-marks_after c = search (rules, mark_not)
