-- `capi::step::fbk_step_lent` meets its contract: the outcome of the step, told in numbers.
use borrow.Author.Rules.{rules}
use Rattle.capi.proofs.Left.{outcome_left}
use Rattle.capi.proofs.step.fbk_step_lent.Goals as goal

pub returns-clause-stamped_after : goal.returns-clause-stamped_after
returns-clause-stamped_after c = search (rules, outcome_left)
