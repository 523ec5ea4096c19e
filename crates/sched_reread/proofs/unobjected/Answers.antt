-- `sched_reread::unobjected` meets its contract: where no cause applies the first type 80 is the only one.
use borrow.Author.Rules.{rules}
use Rattle.sched_reread.proofs.Rereading.{unobjected_by}
use Rattle.sched_reread.proofs.unobjected.Goals as goal

pub returns : goal.returns
returns c = search (rules, unobjected_by)
