-- `das_handle::handle` meets its contract: a refusal comes before any judgement.
use borrow.Author.Rules.{rules}
use Rattle.das_handle.proofs.Stages.{room, handle_refused, refused_table_kept, refused_reply_kept, handle_judged, judged_table, judged_reply}
use Rattle.das_handle.proofs.handle.Goals as goal

pub returns-in-Some-clause-value : goal.returns-in-Some-clause-value
returns-in-Some-clause-value c = search (rules, handle_refused)

pub returns-in-Some-clause-t_after : goal.returns-in-Some-clause-t_after
returns-in-Some-clause-t_after c = search (rules, refused_table_kept)

pub returns-in-Some-clause-reply_after : goal.returns-in-Some-clause-reply_after
returns-in-Some-clause-reply_after c = search (rules, refused_reply_kept)

pub judged-requires : goal.judged-requires
judged-requires c = search (rules, room)

pub returns-clause-value : goal.returns-clause-value
returns-clause-value c = search (rules, handle_judged)

pub returns-clause-t_after : goal.returns-clause-t_after
returns-clause-t_after c = search (rules, judged_table)

pub returns-clause-reply_after : goal.returns-clause-reply_after
returns-clause-reply_after c = search (rules, judged_reply)
