-- Signed numbers that stand for differences of unsigned ones, over the width: where both fit below half the width's power, so does the difference.
-- Assumes nothing.
use mathlib.Core.Path.{◌≡◌, refl, ap}
use mathlib.Core.Bool.{Bool, true, false, cond}
use Prim.Native.Nat.{ℕ, zero, suc, ◌-◌, ◌^◌, ◌<◌}
use native.Mathlib.Omega.{arith}
use lib.Dec.{ltb, leb-suc-zero}
use lib.IntN.{pos, negsuc, sub_ℕ, ◌-ℤ◌}
use lib.Signed.{mag}
use mir.Syntax.{Width, w64}
use mir.Val.{SFits, to_z, of_z, hbits}
use mir.Facts.{to_z-of_z}
use borrow.Author.Tests.{lt-ltb}
use Rattle.rule_stamp.specs.Stamp.{skew_of}

-- bits below half the width's power stand for themselves
pub to_pos : (w : Width) (n : ℕ) → n < 2 ^ hbits w → to_z w n ≡ pos n
to_pos w n h = simp (lt-ltb _ _ h)

pub sub_pos : (a b : ℕ) → pos a -ℤ pos b ≡ sub_ℕ a b
sub_pos a zero = simp (leb-suc-zero a) (ap pos (omega arith))
sub_pos a (suc b) = refl

mag_sub : (a b : ℕ) (x : Bool) → ltb a b ≡ x → (n : ℕ) → a < n → b < n → mag (cond x (negsuc (b - suc a)) (pos (a - b))) < n
mag_sub a b true q n ha hb = omega arith
mag_sub a b false q n ha hb = omega arith

pub sub_fits : (w : Width) (a b : ℕ) → a < 2 ^ hbits w → b < 2 ^ hbits w → SFits w (sub_ℕ a b)
sub_fits w a b ha hb = record { sfits = mag_sub a b (ltb a b) refl _ ha hb }

-- the code's difference of two 32-bit numbers in 64 bits
module _ (a b : ℕ) (ha : a < 2 ^ 32) (hb : b < 2 ^ 32) where
  pub difference_fits : SFits w64 (to_z w64 a -ℤ to_z w64 b)
  difference_fits =
      let ia : a < 2 ^ 63 = omega arith in
      let ib : b < 2 ^ 63 = omega arith in
      rw (to_pos w64 a ia, to_pos w64 b ib, sub_pos) (sub_fits w64 a b ia ib)

  pub difference_is : to_z w64 (of_z w64 (to_z w64 a -ℤ to_z w64 b)) ≡ skew_of a b
  unfolding skew_of
  difference_is =
      let ia : a < 2 ^ 63 = omega arith in
      let ib : b < 2 ^ 63 = omega arith in
      rw (to_pos w64 a ia, to_pos w64 b ib, sub_pos) (to_z-of_z (sub_fits w64 a b ia ib))
