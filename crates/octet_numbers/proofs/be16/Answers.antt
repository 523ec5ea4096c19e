-- `octet_numbers::be16` meets its contract: the library's sum of the two bytes by their worth is the definition at width 2.
use native.Mathlib.Omega.{arith}
use Rattle.octet_numbers.proofs.Numbers.{be_two}
use Rattle.octet_numbers.proofs.be16.Goals as goal

pub returns : goal.returns
returns c = be_two _ _ _ (omega arith)
