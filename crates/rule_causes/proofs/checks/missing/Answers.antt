-- `rule_causes::checks::missing` meets its contract, one law for each return.
use borrow.Author.Rules.{rules}
use Rattle.rule_causes.proofs.Answers.{missing_change, missing-none, missing-all}
use Rattle.rule_causes.proofs.checks.missing.Goals as goal

pub returns-then-survey-eq43 : goal.returns-then-survey-eq43
returns-then-survey-eq43 c = search (rules, missing_change)

pub returns-then-survey : goal.returns-then-survey
returns-then-survey c = search (rules, missing-none)

pub returns : goal.returns
returns c = search (rules, missing-all)
