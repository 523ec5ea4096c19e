-- `sched_move::at_slot` meets its contract: what the re-reading tells decides.
use borrow.Author.Rules.{rules}
use Rattle.sched_job.proofs.Checked.{discarded_reply}
use Rattle.sched_move.proofs.Slotted.{gone_move, gone_table, held_move, held_table, held_reply}
use Rattle.sched_move.proofs.at_slot.Goals as goal

pub returns-in-None-clause-value : goal.returns-in-None-clause-value
returns-in-None-clause-value c = search (rules, gone_move)

pub returns-in-None-clause-t_after : goal.returns-in-None-clause-t_after
returns-in-None-clause-t_after c = search (rules, gone_table)

pub returns-in-None-clause-reply_after : goal.returns-in-None-clause-reply_after
returns-in-None-clause-reply_after c = search (rules, discarded_reply)

pub returns-in-Some-clause-value : goal.returns-in-Some-clause-value
returns-in-Some-clause-value c = search (rules, held_move)

pub returns-in-Some-clause-t_after : goal.returns-in-Some-clause-t_after
returns-in-Some-clause-t_after c = search (rules, held_table)

pub returns-in-Some-clause-reply_after : goal.returns-in-Some-clause-reply_after
returns-in-Some-clause-reply_after c = search (rules, held_reply)
