-- `octet_runs::equal16` meets its contract: d is 0 exactly while no byte has differed.
use lib.Dec.{eqb}
use mathlib.Core.Path.{◌≡◌}
use Rattle.octet_numbers.specs.Runs.{part, equal_bytes}
use Rattle.octet_runs.proofs.equal16.Given as goal

abbrev pub invariant-loop-i : goal.invariant-loop-i
invariant-loop-i l = eqb l.d 0 ≡ equal_bytes (part l.at l.i l.a) (part l.place l.i l.b)
