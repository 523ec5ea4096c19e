-- `das_effects::alteration` meets its contract: each field by the type that names it.
use borrow.Author.Rules.{rules}
use Rattle.das_effects.proofs.Altering.{timeout_inside, idle_inside, altered_as}
use Rattle.das_effects.proofs.alteration.Goals as goal

pub number-requires : goal.number-requires
number-requires c = search (rules, timeout_inside, idle_inside)

pub number-requires-2 : goal.number-requires-2
number-requires-2 c = search (rules, timeout_inside, idle_inside)

pub returns : goal.returns
returns c = search (rules, altered_as)
