-- `attr_survey::turns::flagged` meets its contract: the two calls, one in the other.
use borrow.Author.Rules.{rules}
use Rattle.attr_survey.proofs.FlagTurns.{flagged_says}
use Rattle.attr_survey.proofs.turns.flagged.Goals as goal

pub returns : goal.returns
returns c = search (rules, flagged_says)
