-- `rule_stamp::skew` meets its contract: two 32-bit numbers stand for themselves in 64 bits with sign, and so does their difference.
use borrow.Author.Rules.{rules}
use Rattle.rule_stamp.proofs.Signed.{difference_fits, difference_is}
use Rattle.rule_stamp.proofs.skew.Goals as goal

pub overflow_sub-result : goal.overflow_sub-result
overflow_sub-result c = search (rules, difference_fits)

pub returns : goal.returns
returns c = search (rules, difference_is)
