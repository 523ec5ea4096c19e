-- `sched_make::keep` meets its contract: zeros, and the bytes over them.
use borrow.Author.Rules.{rules}
use Rattle.sched_make.proofs.Making.{over_zeros}
use Rattle.sched_make.proofs.keep.Goals as goal

pub returns : goal.returns
returns c = search (rules, over_zeros)
