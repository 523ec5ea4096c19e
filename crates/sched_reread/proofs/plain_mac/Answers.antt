-- `sched_reread::plain_mac` meets its contract: the length that the pass kept.
use borrow.Author.Rules.{rules}
use Rattle.sched_reread.proofs.Rereading.{mac_there, mac_missing}
use Rattle.sched_reread.proofs.plain_mac.Goals as goal

pub returns-then-first-ne0 : goal.returns-then-first-ne0
returns-then-first-ne0 c = search (rules, mac_there)

pub returns : goal.returns
returns c = search (rules, mac_missing)
