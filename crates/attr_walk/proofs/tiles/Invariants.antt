-- `attr_walk::tiles` meets its contract: whether the rest of the area is filled decides whether all of it is.
use mathlib.Core.Path.{◌≡◌}
use Prim.Native.Nat.{◌-◌}
use lib.ListN.{length}
use Rattle.attr_walk.specs.Attributes.{tiled, tiled_from}
use Rattle.attr_walk.proofs.tiles.Given as goal

abbrev pub invariant-loop-next : goal.invariant-loop-next
invariant-loop-next l = tiled l.s ≡ tiled_from l.s l.at

abbrev pub decreases-loop-next : goal.decreases-loop-next
decreases-loop-next l = length l.s - l.at
