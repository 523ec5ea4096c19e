-- `md5_ops::sums::put` meets its contract: after j turns the sums of the first j words stand at their places.
use mathlib.Core.Path.{◌≡◌}
use lib.ListN.{length}
use Rattle.md5_ops.proofs.Filled.{Put}
use Rattle.md5_ops.proofs.sums.put.Given as goal

abbrev pub invariant-loop-j : goal.invariant-loop-j
invariant-loop-j l = (length l.w ≡ 64) × Put l.x l.t l.w l.j
