-- `octet_copies::copy_bytes` meets its contract: after j turns the first j bytes are written.
use lib.ListN.{length, take}
use mathlib.Core.Path.{◌≡◌}
use Rattle.octet_numbers.specs.Runs.{write}
use Rattle.octet_copies.proofs.copy_bytes.Given as goal

abbrev pub invariant-loop-j : goal.invariant-loop-j
invariant-loop-j l = (length l.t ≡ length l.initial.t) × (l.t ≡ write l.initial.t l.at (take l.j l.v))
