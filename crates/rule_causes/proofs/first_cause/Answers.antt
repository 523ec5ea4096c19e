-- `rule_causes::first_cause` meets its contract, one law for each return.
use borrow.Author.Rules.{rules}
use Rattle.rule_causes.proofs.Answers.{cause_401, cause_405, cause_twice, cause_length, cause_later}
use Rattle.rule_causes.proofs.first_cause.Goals as goal

pub returns-then-f : goal.returns-then-f
returns-then-f c = search (rules, cause_401)

pub returns-then-f-2 : goal.returns-then-f-2
returns-then-f-2 c = search (rules, cause_405)

pub returns-then-f-3 : goal.returns-then-f-3
returns-then-f-3 c = search (rules, cause_twice)

pub returns-then-f-4 : goal.returns-then-f-4
returns-then-f-4 c = search (rules, cause_length)

pub returns : goal.returns
returns c = search (rules, cause_later)
