-- `dac_write::writing::unfit` meets its contract: none of type 80 stands before the place, so what the rest says is what the whole says.
use mathlib.Core.Path.{◌≡◌}
use Prim.Native.Nat.{◌-◌}
use lib.ListN.{length}
use Rattle.dac_write.proofs.Areas.{unfit_from}
use Rattle.dac_write.proofs.writing.unfit.Given as goal

abbrev pub invariant-loop-a : goal.invariant-loop-a
invariant-loop-a l = unfit_from l.s 0 ≡ unfit_from l.s l.at

abbrev pub decreases-loop-a : goal.decreases-loop-a
decreases-loop-a l = length l.s - l.at
