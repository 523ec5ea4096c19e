-- `das_handle::refusal` meets its contract: the tests stand in the order of the numbers.
use borrow.Author.Rules.{rules}
use Rattle.das_handle.proofs.Stages.{refused_table, refused_secret, refused_name, refused_reply, not_refused}
use Rattle.das_handle.proofs.refusal.Goals as goal

pub returns-then-slot_count-eq0 : goal.returns-then-slot_count-eq0
returns-then-slot_count-eq0 c = search (rules, refused_table)

pub returns-then-bad_secret : goal.returns-then-bad_secret
returns-then-bad_secret c = search (rules, refused_secret)

pub returns-then-bad_nas_id : goal.returns-then-bad_nas_id
returns-then-bad_nas_id c = search (rules, refused_name)

pub returns-then-reply-lt4096 : goal.returns-then-reply-lt4096
returns-then-reply-lt4096 c = search (rules, refused_reply)

pub returns : goal.returns
returns c = search (rules, not_refused)
