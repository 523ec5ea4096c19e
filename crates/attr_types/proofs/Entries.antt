-- The table of classes: its entry for a type is the type's class, and each answer of a class is what the published lists say of the type.
-- A class is a sum of eight bits of their own weights, so dividing by a weight leaves that bit and twice the higher ones.
-- Assumes nothing.
use mathlib.Core.Path.{◌≡◌, refl, sym, ap, ◌∙◌}
use mathlib.Core.Bool.{Bool, true, false}
use mathlib.Core.List.{List}
use Prim.Native.Nat.{ℕ, zero, suc, ◌+◌, ◌*◌, ◌/◌, ◌%◌, ◌≤◌, ◌<◌}
use native.Mathlib.Nat.{add-zero, zero-add, add-suc, suc-add, le_of_suc-le-suc, not-suc-le-zero, add-mul-div_left, div-eq_of_lt, add-mul-mod_self_left}
use native.Mathlib.Omega.{arith}
use lib.Dec.{eqb}
use lib.ListN.{get_or}
use Rattle.octet_numbers.specs.Runs.{member}
use Rattle.attr_types.specs.Types.{supported, six_types, filled_types, naming_types, changing_types}
use Rattle.attr_types.specs.Classes.{bit, class_of, says, tabulate, classes}

-- ---- the entry of a type

from : (f : ℕ → ℕ) (n i k : ℕ) → k < n → get_or (tabulate f i n) k 0 ≡ f (i + k)
from f zero i k h = absurd (not-suc-le-zero h)
from f (suc n) i zero h = ap f (sym (add-zero i))
from f (suc n) i (suc k) h = from f n (suc i) k (le_of_suc-le-suc h) ∙ ap f (suc-add i k ∙ sym (add-suc i k))

pub class_entry : (t : List ℕ) (k : ℕ) → t ≡ classes → k < 256 → get_or t k 0 ≡ class_of k
unfolding classes
class_entry t k e h = ap (λ (l : List ℕ). get_or l k 0) e ∙ from class_of 256 0 k h ∙ ap class_of (zero-add k)

-- ---- the answers of a class

low : (b : Bool) → bit b ≤ 1
low true = omega arith
low false = omega arith

bit-says : (b : Bool) → eqb (bit b % 2) 1 ≡ b
bit-says true = refl
bit-says false = refl

digit : (w n down up : ℕ) (b : Bool) → down < w → n ≡ down + w * (bit b + 2 * up) → says w n ≡ b
unfolding says
digit w n down up b h e =
    let q : n / w ≡ bit b + 2 * up =
    ap (λ (m : ℕ). m / w) e ∙ add-mul-div_left down (bit b + 2 * up) (omega arith) ∙ ap (λ (m : ℕ). m + (bit b + 2 * up)) (div-eq_of_lt h) ∙ zero-add (bit b + 2 * up) in
    ap (λ (m : ℕ). eqb (m % 2) 1) q ∙ ap (λ (m : ℕ). eqb m 1) (add-mul-mod_self_left (bit b) 2 up) ∙ bit-says b

module _ (a b c d e f g h : Bool) where
  abbrev sum : ℕ
  sum = bit a + 2 * bit b + 4 * bit c + 8 * bit d + 16 * bit e + 32 * bit f + 64 * bit g + 128 * bit h

  weight_1 : says 1 sum ≡ a
  weight_1 = digit 1 sum 0 (bit b + 2 * bit c + 4 * bit d + 8 * bit e + 16 * bit f + 32 * bit g + 64 * bit h) a (omega arith) (omega arith)

  weight_2 : says 2 sum ≡ b
  weight_2 = digit 2 sum (bit a) (bit c + 2 * bit d + 4 * bit e + 8 * bit f + 16 * bit g + 32 * bit h) b (omega (arith, low a)) (omega arith)

  weight_4 : says 4 sum ≡ c
  weight_4 = digit 4 sum (bit a + 2 * bit b) (bit d + 2 * bit e + 4 * bit f + 8 * bit g + 16 * bit h) c (omega (arith, low a, low b)) (omega arith)

  weight_8 : says 8 sum ≡ d
  weight_8 = digit 8 sum (bit a + 2 * bit b + 4 * bit c) (bit e + 2 * bit f + 4 * bit g + 8 * bit h) d (omega (arith, low a, low b, low c)) (omega arith)

  weight_16 : says 16 sum ≡ e
  weight_16 = digit 16 sum (bit a + 2 * bit b + 4 * bit c + 8 * bit d) (bit f + 2 * bit g + 4 * bit h) e (omega (arith, low a, low b, low c, low d)) (omega arith)

  weight_32 : says 32 sum ≡ f
  weight_32 = digit 32 sum (bit a + 2 * bit b + 4 * bit c + 8 * bit d + 16 * bit e) (bit g + 2 * bit h) f (omega (arith, low a, low b, low c, low d, low e)) (omega arith)

  weight_64 : says 64 sum ≡ g
  weight_64 = digit 64 sum (bit a + 2 * bit b + 4 * bit c + 8 * bit d + 16 * bit e + 32 * bit f) (bit h) g (omega (arith, low a, low b, low c, low d, low e, low f)) (omega arith)

  weight_128 : says 128 sum ≡ h
  weight_128 = digit 128 sum (bit a + 2 * bit b + 4 * bit c + 8 * bit d + 16 * bit e + 32 * bit f + 64 * bit g) 0 h (omega (arith, low a, low b, low c, low d, low e, low f, low g)) (omega arith)

module _ (k : ℕ) where
  pub says_coa : says 1 (class_of k) ≡ supported 43 k
  unfolding class_of
  says_coa = weight_1 (supported 43 k) (supported 40 k) (member k six_types) (member k filled_types) (member k naming_types) (member k changing_types) (eqb k 33) (eqb k 6)

  pub says_disconnect : says 2 (class_of k) ≡ supported 40 k
  unfolding class_of
  says_disconnect = weight_2 (supported 43 k) (supported 40 k) (member k six_types) (member k filled_types) (member k naming_types) (member k changing_types) (eqb k 33) (eqb k 6)

  pub says_six : says 4 (class_of k) ≡ member k six_types
  unfolding class_of
  says_six = weight_4 (supported 43 k) (supported 40 k) (member k six_types) (member k filled_types) (member k naming_types) (member k changing_types) (eqb k 33) (eqb k 6)

  pub says_filled : says 8 (class_of k) ≡ member k filled_types
  unfolding class_of
  says_filled = weight_8 (supported 43 k) (supported 40 k) (member k six_types) (member k filled_types) (member k naming_types) (member k changing_types) (eqb k 33) (eqb k 6)

  pub says_criterion : says 16 (class_of k) ≡ member k naming_types
  unfolding class_of
  says_criterion = weight_16 (supported 43 k) (supported 40 k) (member k six_types) (member k filled_types) (member k naming_types) (member k changing_types) (eqb k 33) (eqb k 6)

  pub says_change : says 32 (class_of k) ≡ member k changing_types
  unfolding class_of
  says_change = weight_32 (supported 43 k) (supported 40 k) (member k six_types) (member k filled_types) (member k naming_types) (member k changing_types) (eqb k 33) (eqb k 6)

  pub says_repeats : says 64 (class_of k) ≡ eqb k 33
  unfolding class_of
  says_repeats = weight_64 (supported 43 k) (supported 40 k) (member k six_types) (member k filled_types) (member k naming_types) (member k changing_types) (eqb k 33) (eqb k 6)

  pub says_service : says 128 (class_of k) ≡ eqb k 6
  unfolding class_of
  says_service = weight_128 (supported 43 k) (supported 40 k) (member k six_types) (member k filled_types) (member k naming_types) (member k changing_types) (eqb k 33) (eqb k 6)
