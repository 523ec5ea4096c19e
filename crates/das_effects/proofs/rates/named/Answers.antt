-- `das_effects::rates::named` meets its contract: the first type 26, where the pass counted one.
use borrow.Author.Rules.{rules}
use Rattle.das_effects.proofs.Rated.{rates_there, rates_none}
use Rattle.das_effects.proofs.rates.named.Goals as goal

pub returns-then-has : goal.returns-then-has
returns-then-has c = search (rules, rates_there)

pub returns : goal.returns
returns c = search (rules, rates_none)
