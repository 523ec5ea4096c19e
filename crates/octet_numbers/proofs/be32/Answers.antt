-- `octet_numbers::be32` meets its contract: the library's sum of the four bytes by their worth is the definition, which goes from the first byte on.
use native.Mathlib.Nat.{add-zero}
use native.Mathlib.Omega.{arith}
use Rattle.octet_numbers.specs.Numbers.{be}
use Rattle.octet_numbers.proofs.be32.Goals as goal

pub returns : goal.returns
unfolding be
returns c = rw add-zero (omega arith)
