-- `sched_job::first` meets its contract: the words before the first block, and no marks.
use Rattle.table_slots.specs.Marks.{no_marks}
use Rattle.sched_job.proofs.first.Goals as goal

pub returns : goal.returns
unfolding no_marks
returns c = rw (c.words_of.ensures, c.initial.ensures)
