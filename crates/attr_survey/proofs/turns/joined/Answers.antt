-- `attr_survey::turns::joined` meets its contract: each flag is its call.
use borrow.Author.Rules.{rules}
use Rattle.attr_survey.proofs.FlagTurns.{joined_flags}
use Rattle.attr_survey.proofs.turns.joined.Goals as goal

pub returns : goal.returns
returns c = search (rules, joined_flags)
