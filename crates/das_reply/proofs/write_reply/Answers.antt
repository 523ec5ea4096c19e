-- `das_reply::write_reply` meets its contract: each call leaves one part more of the definition's reply, and the last its signatures.
use borrow.Author.Rules.{rules}
use Rattle.das_reply.proofs.Replying.{end_is, end_low, replied}
use Rattle.das_reply.proofs.write_reply.Goals as goal

pub put_head-requires-clause-n_value : goal.put_head-requires-clause-n_value
put_head-requires-clause-n_value c = (search (rules, end_is), search (rules, end_low))

pub returns-clause-reply_after : goal.returns-clause-reply_after
returns-clause-reply_after c = search (rules, replied)

pub returns-clause-value : goal.returns-clause-value
returns-clause-value c = search (rules, end_is)
