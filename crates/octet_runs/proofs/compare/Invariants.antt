-- `octet_runs::compare` meets its contract: the bytes before place i are those not yet compared, and decide the rest of the answer; four are the same
-- exactly where their number is.
use lib.ListN.{length, take}
use Prim.Native.Nat.{◌≤◌, ◌+◌, ◌-◌}
use mathlib.Core.Path.{◌≡◌}
use mathlib.Core.List.{reverse}
use Rattle.octet_numbers.specs.Runs.{equal_bytes}
use Rattle.octet_runs.specs.Compared.{pairs_from, same_text, pairs_compared}
use Rattle.octet_runs.proofs.compare.Given as goal

abbrev pub invariant-loop-i : goal.invariant-loop-i
invariant-loop-i l = (l.n ≡ length l.a) × (l.n ≡ length l.b) × (l.i ≤ l.n) × (same_text l.a l.b ≡ equal_bytes (reverse (take l.i l.a)) (reverse (take l.i l.b))) × (pairs_compared l.a l.b ≡ l.n - l.i + pairs_from (reverse (take l.i l.a)) (reverse (take l.i l.b)))

abbrev pub decreases-loop-i : goal.decreases-loop-i
decreases-loop-i l = l.i

abbrev pub invariant-loop-j : goal.invariant-loop-j
invariant-loop-j l = (l.j ≤ l.n) × (same_text l.a l.b ≡ equal_bytes (reverse (take l.j l.a)) (reverse (take l.j l.b))) × (pairs_compared l.a l.b ≡ l.n - l.j + pairs_from (reverse (take l.j l.a)) (reverse (take l.j l.b)))
