-- The area of a packet that does not meet D1, where the code takes it: from place 20 up to Length, which is at most 4,096.
-- Assumes nothing.
use mathlib.Core.Path.{◌≡◌, ◌∙◌}
use mathlib.Core.List.{List}
use Prim.Native.Nat.{ℕ, ◌-◌, ◌≤◌}
use native.Mathlib.Omega.{arith}
use lib.ListN.{length}
use Rattle.octet_numbers.specs.Runs.{part}
use Rattle.octet_numbers.proofs.Part.{length_part}
use Rattle.packet_form.specs.Packet.{area_of}
use Rattle.packet_form.specs.Discards.{Sized}

-- the area where it lies
pub area_of_lem : (s p : List ℕ) (n : ℕ) → s ≡ part 20 (n - 20) p → Sized p n → s ≡ area_of p
area_of_lem s p n e z = e ∙ rw z.is

-- it is no longer than 4,076 bytes
pub area_short : (s p : List ℕ) (n : ℕ) → s ≡ part 20 (n - 20) p → Sized p n → length s ≤ 4076
area_short s p n e z = rw (e, length_part 20 (n - 20) p (omega (arith, z.low, z.given))) (omega (arith, z.high))
