-- The distance of a stamp from the clock: one of the two differences is 0, so their sum is the other. It is the size of the signed skew.
-- Assumes nothing.
use mathlib.Core.Path.{◌≡◌, refl, sym, ap}
use mathlib.Core.Bool.{Bool, true, false, cond}
use Prim.Native.Nat.{ℕ, suc, ◌+◌, ◌-◌, ◌≤◌, ◌<◌}
use native.Mathlib.Omega.{arith}
use lib.Dec.{ltb}
use lib.IntN.{pos, negsuc, nat_abs}
use borrow.Author.Tests.{ltb-true, ltb-false}
use Rattle.rule_stamp.specs.Stamp.{stale, skew_of}

pub stale_up : (a b : ℕ) → b ≤ a → ltb 300 (a - b) ≡ stale a b
unfolding stale
stale_up a b h = let e : a - b ≡ (a - b) + (b - a) = omega arith in ap (ltb 300) e

pub stale_down : (a b : ℕ) → a < b → ltb 300 (b - a) ≡ stale a b
unfolding stale
stale_down a b h = let e : b - a ≡ (a - b) + (b - a) = omega arith in ap (ltb 300) e

-- ---- the skew and the rule of 300 seconds

abs_case : (a b : ℕ) (x : Bool) → ltb a b ≡ x → nat_abs (cond x (negsuc (b - suc a)) (pos (a - b))) ≡ (a - b) + (b - a)
abs_case a b true q = let h : a < b = ltb-true _ _ q in omega arith
abs_case a b false q = let h : b ≤ a = ltb-false _ _ q in omega arith

pub stale_skew : (a b : ℕ) → stale a b ≡ ltb 300 (nat_abs (skew_of a b))
unfolding stale skew_of
stale_skew a b = ap (ltb 300) (sym (abs_case a b (ltb a b) refl))

-- 300 seconds pass and 301 do not, either way; the difference does not wrap
pub near_below : (stale 0 300 ≡ false) × (skew_of 0 300 ≡ negsuc 299)
unfolding stale skew_of
near_below = (refl, refl)

pub far_below : (stale 0 301 ≡ true) × (skew_of 0 301 ≡ negsuc 300)
unfolding stale skew_of
far_below = (refl, refl)

pub near_above : (stale 300 0 ≡ false) × (skew_of 300 0 ≡ pos 300)
unfolding stale skew_of
near_above = (refl, refl)

pub far_apart : (stale 4294967295 0 ≡ true) × (skew_of 4294967295 0 ≡ pos 4294967295)
unfolding stale skew_of
far_apart = (refl, refl)
