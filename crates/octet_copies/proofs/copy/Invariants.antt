-- `octet_copies::copy` meets its contract: after k turns the first k words are written, and the rest goes after them.
use lib.ListN.{length, take}
use mathlib.Core.Path.{◌≡◌}
use Prim.Native.Nat.{◌*◌}
use Rattle.octet_numbers.specs.Runs.{write}
use Rattle.octet_copies.proofs.copy.Given as goal

abbrev pub invariant-loop-k : goal.invariant-loop-k
invariant-loop-k l = (length l.t ≡ length l.initial.t) × (l.t ≡ write l.initial.t l.at (take (l.k * 8) l.v))
