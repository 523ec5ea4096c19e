-- `rule_causes::checks::other_value` meets its contract: the calls are the parts of the definition.
use borrow.Author.Rules.{rules}
use Rattle.rule_causes.proofs.Answers.{differs_there, differs_none}
use Rattle.rule_causes.proofs.checks.other_value.Goals as goal

pub returns-then-has : goal.returns-then-has
returns-then-has c = search (rules, differs_there)

pub returns : goal.returns
returns c = search (rules, differs_none)
