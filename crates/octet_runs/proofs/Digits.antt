-- A number of four bytes has them as its digits to the base 256, so two such numbers are the same exactly where all four bytes are; and the digits,
-- lowest first, are the bytes from the last on.
-- Assumes nothing.
use mathlib.Core.Path.{◌≡◌, refl, sym, ap, ◌∙◌}
use mathlib.Core.Bool.{Bool, true, false, cond}
use mathlib.Core.List.{List, [], ◌∷◌, ◌++◌, reverse}
use Prim.Native.Nat.{ℕ, zero, suc, ◌+◌, ◌*◌, ◌/◌, ◌%◌, ◌≤◌, ◌<◌}
use native.Mathlib.Nat.{add-zero}
use native.Mathlib.Omega.{arith}
use borrow.Author.Tests.{eq-eqb, ne_eqb}
use mir.Syntax.{w8}
use mir.Val.{Fits}
use lib.Dec.{eqb}
use lib.ListN.{length, get_or, drop, length-drop}
use lib.Seq.{take-suc, get_or-drop}
use Rattle.octet_numbers.specs.Numbers.{be, be_bytes}
use Rattle.octet_numbers.specs.Runs.{part}
use Rattle.octet_numbers.proofs.Numbers.{be-part}
use Rattle.octet_runs.specs.Compared.{pairs_from}

high : (p x : ℕ) → x < 256 → (p * 256 + x) / 256 ≡ p
high p x h = omega arith

low : (p x : ℕ) → x < 256 → (p * 256 + x) % 256 ≡ x
low p x h = omega arith

-- the bytes of the number that n bytes of l hold are these bytes
pub digits : (l : List ℕ) (at n : ℕ) → at + n ≤ length l → ((k : ℕ) → Fits w8 (get_or l k 0)) → be_bytes n (be at n l) ≡ part at n l
unfolding be be_bytes part
digits l at zero h f = refl
digits l at (suc n) h f =
    let x : get_or l (at + n) 0 < 256 = omega (arith, f (at + n)) in
    let g : n < length (drop at l) = rw length-drop (omega arith) in
    rw (high (be at n l) (get_or l (at + n) 0) x, low (be at n l) (get_or l (at + n) 0) x, take-suc (drop at l) n 0 g, get_or-drop at l n 0)
    (ap (λ (s : List ℕ). s ++ (get_or l (at + n) 0 ∷ [])) (digits l at n (omega arith) f))

-- the same bytes hold the same number
pub part_number : (a b : List ℕ) (at n : ℕ) → part at n a ≡ part at n b → be at n a ≡ be at n b
part_number a b at n e = sym (whole a) ∙ ap (be 0 n) e ∙ whole b
  where
    whole : (l : List ℕ) → be 0 n (part at n l) ≡ be at n l
    whole l = be-part n l at n 0 (omega arith) ∙ ap (λ (k : ℕ). be k n l) (add-zero at)

-- ---- the pairs compared in two numbers: x % 256 is the last byte of x, x / 256 % 256 the one before it, and so on

third : (x : ℕ) → x / 256 / 256 ≡ x / 65536
third x = omega arith

module _ (x y : ℕ) where
  pub pairs_1 : (x % 256 ≡ y % 256 → ⊥) → 1 ≡ pairs_from (reverse (be_bytes 4 x)) (reverse (be_bytes 4 y))
  unfolding pairs_from be_bytes
  pairs_1 n = rw (ne_eqb (x % 256) (y % 256) n)

  module _ (e : x % 256 ≡ y % 256) where
    same_1 : eqb (x % 256) (y % 256) ≡ true
    same_1 = eq-eqb (x % 256) (y % 256) e

    pub pairs_2 : (x / 256 % 256 ≡ y / 256 % 256 → ⊥) → 2 ≡ pairs_from (reverse (be_bytes 4 x)) (reverse (be_bytes 4 y))
    unfolding pairs_from be_bytes
    pairs_2 n = rw (same_1, ne_eqb (x / 256 % 256) (y / 256 % 256) n)

    module _ (g : x / 256 % 256 ≡ y / 256 % 256) where
      same_2 : eqb (x / 256 % 256) (y / 256 % 256) ≡ true
      same_2 = eq-eqb (x / 256 % 256) (y / 256 % 256) g

      pub pairs_3 : (x / 65536 % 256 ≡ y / 65536 % 256 → ⊥) → 3 ≡ pairs_from (reverse (be_bytes 4 x)) (reverse (be_bytes 4 y))
      unfolding pairs_from be_bytes
      pairs_3 n = rw (same_1, same_2, third x, third y, ne_eqb (x / 65536 % 256) (y / 65536 % 256) n)

      pub pairs_4 : x / 65536 % 256 ≡ y / 65536 % 256 → 4 ≡ pairs_from (reverse (be_bytes 4 x)) (reverse (be_bytes 4 y))
      unfolding pairs_from be_bytes
      pairs_4 h =
          rw (same_1, same_2, third x, third y, eq-eqb (x / 65536 % 256) (y / 65536 % 256) h)
          (last (eqb (x / 65536 / 256 % 256) (y / 65536 / 256 % 256)))
        where
          last : (r : Bool) → 4 ≡ 1 + (1 + (1 + cond r (1 + 0) 1))
          last true = refl
          last false = refl
