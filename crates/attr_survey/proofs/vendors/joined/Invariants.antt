-- `attr_survey::vendors::joined` meets its contract: the flags so far, with the attributes that are left, give the flags of all.
use mathlib.Core.Path.{◌≡◌}
use Prim.Native.Nat.{◌-◌}
use lib.ListN.{length}
use Rattle.attr_walk.specs.Attributes.{attributes_from}
use Rattle.attr_survey.specs.Vendors.{vendors_joined}
use Rattle.attr_survey.proofs.vendors.joined.Given as goal

abbrev pub invariant-loop-a : goal.invariant-loop-a
invariant-loop-a l = vendors_joined l.s (attributes_from l.s 0) l.initial.g ≡ vendors_joined l.s (attributes_from l.s l.at) l.g

abbrev pub decreases-loop-a : goal.decreases-loop-a
decreases-loop-a l = length l.s - l.at
