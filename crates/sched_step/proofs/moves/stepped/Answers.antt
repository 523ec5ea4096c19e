-- `sched_step::moves::stepped` meets its contract: the job is moved by its part of the store, and put back.
use borrow.Author.Rules.{rules}
use Rattle.sched_step.proofs.Moving.{part_long}
use Rattle.sched_step.proofs.Parts.{part_table, part_ending, part_words, part_kinds, part_places, part_marks, part_reply}
use Rattle.sched_step.proofs.moves.stepped.Goals as goal

pub worked-m-requires : goal.worked-m-requires
worked-m-requires c = (search rules, search rules, search (rules, part_long), search rules)

pub returns-clause-value : goal.returns-clause-value
returns-clause-value c = let e = c.worked-m.ensures in let q = c.slice-q.ensures in let w = c.settled.ensures in part_ending _ _ _ _ _ _ _ _ _ q _ e.value

pub returns-clause-words_after : goal.returns-clause-words_after
returns-clause-words_after c = let e = c.worked-m.ensures in let q = c.slice-q.ensures in let w = c.settled.ensures in part_words _ _ _ _ _ _ _ _ _ q _ e.value _ w.words_after

pub returns-clause-kinds_after : goal.returns-clause-kinds_after
returns-clause-kinds_after c = let e = c.worked-m.ensures in let q = c.slice-q.ensures in let w = c.settled.ensures in part_kinds _ _ _ _ _ _ _ _ _ q _ e.value _ w.kinds_after

pub returns-clause-places_after : goal.returns-clause-places_after
returns-clause-places_after c = let e = c.worked-m.ensures in let q = c.slice-q.ensures in let w = c.settled.ensures in part_places _ _ _ _ _ _ _ _ _ q _ e.value _ w.places_after

pub returns-clause-marks_after : goal.returns-clause-marks_after
returns-clause-marks_after c = let e = c.worked-m.ensures in let q = c.slice-q.ensures in let w = c.settled.ensures in part_marks _ _ _ _ _ _ _ _ _ q _ e.value _ w.marks_after

pub returns-clause-t_after : goal.returns-clause-t_after
returns-clause-t_after c = let e = c.worked-m.ensures in let q = c.slice-q.ensures in let w = c.settled.ensures in part_table _ _ _ _ _ _ _ _ _ q _ e.t_after

pub returns-clause-reply_after : goal.returns-clause-reply_after
returns-clause-reply_after c = let e = c.worked-m.ensures in let q = c.slice-q.ensures in let w = c.settled.ensures in part_reply _ _ _ _ _ _ _ _ _ q _ e.value _ _ e.reply_after
