-- `attr_survey::by_type` meets its contract: what is held, completed by what is left, gives the answers on all attributes.
use borrow.Author.Rules.{rules}
use Rattle.attr_walk.proofs.Walks.{advance, tiles_on}
use Rattle.attr_survey.proofs.Held.{starts}
use Rattle.attr_survey.proofs.Passes.{end_fits, held_33, held_empty, held_other, flags_end, flags_bad, kept_end, kept_bad}
use Rattle.attr_survey.proofs.by_type.Goals as goal

pub loop-a-init : goal.loop-a-init
loop-a-init c = (search (rules, starts), (search rules, search rules, search rules))

pub overflow_cast-end : goal.overflow_cast-end
overflow_cast-end c = search (rules, end_fits)

pub loop-a-smaller-then-size-eq2 : goal.loop-a-smaller-then-size-eq2
loop-a-smaller-then-size-eq2 c = search (rules, advance)

pub loop-a-preserved-then-size-eq2 : goal.loop-a-preserved-then-size-eq2
loop-a-preserved-then-size-eq2 c = (search (rules, held_empty), (search (rules, tiles_on), search rules, search rules))

pub loop-a-smaller-then-says : goal.loop-a-smaller-then-says
loop-a-smaller-then-says c = search (rules, advance)

pub loop-a-preserved-then-says : goal.loop-a-preserved-then-says
loop-a-preserved-then-says c = (search (rules, held_33), (search (rules, tiles_on), search rules, search rules))

pub loop-a-smaller : goal.loop-a-smaller
loop-a-smaller c = search (rules, advance)

pub loop-a-preserved : goal.loop-a-preserved
loop-a-preserved c = (search (rules, held_other), (search (rules, tiles_on), search rules, search rules))

pub returns-in-End-clause-typed : goal.returns-in-End-clause-typed
returns-in-End-clause-typed c = search (rules, flags_end)

pub returns-in-End-clause-kept : goal.returns-in-End-clause-kept
returns-in-End-clause-kept c = search (rules, kept_end)

pub returns-in-Bad-clause-typed : goal.returns-in-Bad-clause-typed
returns-in-Bad-clause-typed c = search (rules, flags_bad)

pub returns-in-Bad-clause-kept : goal.returns-in-Bad-clause-kept
returns-in-Bad-clause-kept c = search (rules, kept_bad)
