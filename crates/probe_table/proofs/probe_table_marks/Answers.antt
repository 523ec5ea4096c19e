-- `probe_table::probe_table_marks` meets its contract: the marks stand in the whole of their room.
use borrow.Author.Rules.{rules}
use Rattle.probe_table.proofs.Copied.{marks_copied}
use Rattle.probe_table.proofs.probe_table_marks.Goals as goal

pub returns-clause-marks_after : goal.returns-clause-marks_after
returns-clause-marks_after c = rw (← c.criteria_of.ensures) (search (rules, marks_copied))
