-- `rule_causes::later_cause` meets its contract, one law for each return.
use borrow.Author.Rules.{rules}
use Rattle.rule_causes.proofs.Answers.{later_address, later_name, later_402, later_506, later-none}
use Rattle.rule_causes.proofs.later_cause.Goals as goal

pub returns-then-other_address : goal.returns-then-other_address
returns-then-other_address c = search (rules, later_address)

pub returns-then-other_value : goal.returns-then-other_value
returns-then-other_value c = search (rules, later_name)

pub returns-then-missing : goal.returns-then-missing
returns-then-missing c = search (rules, later_402)

pub returns-then-first_of-gt34 : goal.returns-then-first_of-gt34
returns-then-first_of-gt34 c = search (rules, later_506)

pub returns : goal.returns
returns c = search (rules, later-none)
