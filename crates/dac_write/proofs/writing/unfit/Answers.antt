-- `dac_write::writing::unfit` meets its contract: none of type 80 stands before the place, so what the rest says is what the whole says.
use mathlib.Core.Path.{refl}
use borrow.Author.Rules.{rules}
use Rattle.attr_walk.proofs.Walks.{advance}
use Rattle.dac_write.proofs.Areas.{unfit_here, unfit_on, unfit_end, unfit_bad}
use Rattle.dac_write.proofs.writing.unfit.Goals as goal

pub loop-a-init : goal.loop-a-init
loop-a-init c = refl

pub returns-then-a-eq-MESSAGE_AUTHENTICATOR : goal.returns-then-a-eq-MESSAGE_AUTHENTICATOR
returns-then-a-eq-MESSAGE_AUTHENTICATOR c = search (rules, unfit_here)

pub loop-a-smaller : goal.loop-a-smaller
loop-a-smaller c = search (rules, advance)

pub loop-a-preserved : goal.loop-a-preserved
loop-a-preserved c = search (rules, unfit_on)

pub returns-in-End : goal.returns-in-End
returns-in-End c = search (rules, unfit_end)

pub returns-in-Bad : goal.returns-in-Bad
returns-in-Bad c = search (rules, unfit_bad)
