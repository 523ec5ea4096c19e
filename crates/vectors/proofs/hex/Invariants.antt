-- `vectors::hex` meets its contract: after i turns the digits of i bytes stand.
use lib.ListN.{length, take, replicate}
use Prim.Native.Nat.{◌≤◌, ◌-◌}
use mathlib.Core.Path.{◌≡◌}
use Rattle.vectors.specs.Hex.{hex_of}
use Rattle.octet_numbers.specs.Runs.{write}
use Rattle.vectors.proofs.hex.Given as goal

abbrev pub invariant-loop-i : goal.invariant-loop-i
invariant-loop-i l = (l.i ≤ 16) × (length l.d ≡ 16) × (length l.out ≡ 33) × (l.out ≡ write (replicate 33 10) 0 (hex_of (take l.i l.d)))

abbrev pub decreases-loop-i : goal.decreases-loop-i
decreases-loop-i l = 16 - l.i
