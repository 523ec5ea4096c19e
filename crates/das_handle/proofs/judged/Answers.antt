-- `das_handle::judged` meets its contract: D1 to D4, then the rest on what they leave.
use borrow.Author.Rules.{rules}
use Rattle.das_handle.proofs.Stages.{form_answer, unsigned_answer, signed-answer, signed_table, signed_reply}
use Rattle.das_handle.proofs.judged.Goals as goal

pub returns-in-Err-clause-value : goal.returns-in-Err-clause-value
returns-in-Err-clause-value c = form_answer _ _ _ _ _ c.in-Err.ensures

pub returns-then-request_signed-clause-value : goal.returns-then-request_signed-clause-value
returns-then-request_signed-clause-value c =
    signed-answer _ _ _ _ c.in-Ok.ensures.0 _ c.in-Ok.ensures.1 _ c.in-Ok.packet.sized _ c.request_signed.ensures c.if-request_signed.true _ c.signed.ensures.value

pub returns-then-request_signed-clause-t_after : goal.returns-then-request_signed-clause-t_after
returns-then-request_signed-clause-t_after c = search (rules, signed_table)

pub returns-then-request_signed-clause-reply_after : goal.returns-then-request_signed-clause-reply_after
returns-then-request_signed-clause-reply_after c = search (rules, signed_reply)

pub returns-else-request_signed-clause-value : goal.returns-else-request_signed-clause-value
returns-else-request_signed-clause-value c =
    unsigned_answer _ _ _ _ c.in-Ok.ensures.0 _ c.in-Ok.ensures.1 _ c.in-Ok.packet.sized _ c.request_signed.ensures c.if-request_signed.false
