-- `rule_causes::checks::other_address` meets its contract: the four bytes written are the address.
use borrow.Author.Rules.{rules}
use Rattle.rule_causes.proofs.Answers.{own_address}
use Rattle.rule_causes.proofs.checks.other_address.Goals as goal

pub returns : goal.returns
returns c = search (rules, own_address)
