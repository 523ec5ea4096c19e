-- `das_handle::passed::signed` meets its contract: the judgement first, then what follows from it.
use borrow.Author.Rules.{rules}
use Rattle.das_handle.proofs.Arms.{ended_answer, ended_table, ended_reply, passed_room, passed_commits, passed_answer, passed_table, passed_reply}
use Rattle.das_handle.proofs.passed.signed.Goals as goal

pub matched-requires-clause-committable : goal.matched-requires-clause-committable
matched-requires-clause-committable c = passed_commits _ _ _ (search rules) _ _ c.judge-judged.ensures.value _ c.in-Ok.is _ c.judge-judged.result.1.packet.sized

pub matched-requires-clause-room : goal.matched-requires-clause-room
matched-requires-clause-room c = search (rules, passed_room)

pub returns-in-Err-clause-value : goal.returns-in-Err-clause-value
returns-in-Err-clause-value c = search (rules, ended_answer)

pub returns-in-Err-clause-t_after : goal.returns-in-Err-clause-t_after
returns-in-Err-clause-t_after c = search (rules, ended_table)

pub returns-in-Err-clause-reply_after : goal.returns-in-Err-clause-reply_after
returns-in-Err-clause-reply_after c = search (rules, ended_reply)

pub returns-in-Ok-clause-value : goal.returns-in-Ok-clause-value
returns-in-Ok-clause-value c = search (rules, passed_answer)

pub returns-in-Ok-clause-t_after : goal.returns-in-Ok-clause-t_after
returns-in-Ok-clause-t_after c = search (rules, passed_table)

pub returns-in-Ok-clause-reply_after : goal.returns-in-Ok-clause-reply_after
returns-in-Ok-clause-reply_after c = search (rules, passed_reply)
