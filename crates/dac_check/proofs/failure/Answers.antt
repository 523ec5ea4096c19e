-- `dac_check::failure` meets its contract: the pass over the reply's attributes tells V2's second part.
use borrow.Author.Rules.{rules}
use Rattle.dac_check.proofs.Failures.{attributes_fail, reply_good}
use Rattle.dac_check.proofs.failure.Goals as goal

pub mismatch-requires : goal.mismatch-requires
mismatch-requires c = (search rules, search (rules, reply_good), search rules)

pub returns-then-not-survey : goal.returns-then-not-survey
returns-then-not-survey c = search (rules, attributes_fail)
