-- `capi::fbk_handle` meets its contract: the answer of the handler, told in numbers.
use borrow.Author.Rules.{rules}
use Rattle.capi.proofs.Bounds.{answer_small}
use Rattle.capi.proofs.Left.{answer_left}
use Rattle.capi.proofs.fbk_handle.Goals as goal

pub returns-clause-stamped_after : goal.returns-clause-stamped_after
returns-clause-stamped_after c = search (rules, answer_left)

pub tell-numbers-requires : goal.tell-numbers-requires
tell-numbers-requires c = search (rules, answer_small)
