-- `md5_ops::steps::step` meets its contract: its parts are those of the definition, on the sums.
use borrow.Author.Rules.{rules}
use Rattle.md5_ops.proofs.Chain.{stepped}
use Rattle.md5_ops.proofs.steps.step.Goals as goal

pub returns : goal.returns
returns c = search (rules, stepped)
