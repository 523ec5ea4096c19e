-- `sched_reread::check::check` meets its contract: the store is read again first, then the verdict decides.
use borrow.Author.Rules.{rules}
use Rattle.sched_reread.proofs.Stored.{store_gone, store_held, store_reply}
use Rattle.sched_reread.proofs.check.check.Goals as goal

pub returns-in_default-clause-value : goal.returns-in_default-clause-value
returns-in_default-clause-value c = store_gone _ _ _ _ _ c.in_default.ensures

pub returns-clause-value : goal.returns-clause-value
returns-clause-value c = store_held _ _ _ _ _ c.in-Some.ensures.2 _ c.is_authenticator-signed.ensures _ c.in-Some.ensures.0 _ c.judge-judged.ensures.value

pub returns-clause-reply_after : goal.returns-clause-reply_after
returns-clause-reply_after c = search (rules, store_reply)
