-- `attr_survey::by_type` meets its contract: what is held, completed by what is left, gives the answers on all attributes.
use mathlib.Core.Path.{◌≡◌}
use Prim.Native.Nat.{◌-◌, ◌≤◌}
use lib.ListN.{length}
use Rattle.attr_walk.specs.Attributes.{attributes_from, tiled_from}
use Rattle.attr_types.specs.Classes.{classes}
use Rattle.attr_survey.proofs.Held.{Held}
use Rattle.attr_survey.proofs.by_type.Given as goal

abbrev pub invariant-loop-a : goal.invariant-loop-a
invariant-loop-a l = Held l.code (attributes_from l.s 0) (attributes_from l.s l.at) l.noted l.f × ((tiled_from l.s 0 ≡ tiled_from l.s l.at) × (length l.s ≤ 4096) × (l.table ≡ classes))

abbrev pub decreases-loop-a : goal.decreases-loop-a
decreases-loop-a l = length l.s - l.at
