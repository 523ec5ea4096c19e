-- `table_change::change_marked` meets its contract: table and count are those of the slots passed.
use Prim.Native.Nat.{◌≤◌}
use mathlib.Core.Path.{◌≡◌}
use Rattle.table_change.specs.Change.{change_marked, count_marked}
use Rattle.table_change.proofs.change_marked.Given as goal

abbrev pub invariant-loop-k : goal.invariant-loop-k
invariant-loop-k l = (l.count ≤ l.k) × (l.count ≡ count_marked l.marks l.k l.initial.t) × (l.t ≡ change_marked l.area l.c l.marks l.k l.initial.t)
