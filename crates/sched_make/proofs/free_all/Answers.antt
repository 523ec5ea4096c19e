-- `sched_make::free_all` meets its contract: every number of a free job is 0.
use mathlib.Core.Path.{refl}
use Rattle.table_slots.specs.Marks.{no_marks}
use Rattle.sched_make.proofs.free_all.Goals as goal

pub returns-clause-words_after : goal.returns-clause-words_after
unfolding no_marks
returns-clause-words_after c = refl

pub returns-clause-kinds_after : goal.returns-clause-kinds_after
unfolding no_marks
returns-clause-kinds_after c = refl

pub returns-clause-places_after : goal.returns-clause-places_after
unfolding no_marks
returns-clause-places_after c = refl

pub returns-clause-marks_after : goal.returns-clause-marks_after
unfolding no_marks
returns-clause-marks_after c = refl
