-- Equality of byte runs as a test: what its two answers mean.
-- Assumes nothing.
use mathlib.Core.Path.{◌≡◌, refl, ap}
use mathlib.Core.Bool.{Bool, true, false, ◌&&◌, false≢true}
use mathlib.Core.List.{List, [], ◌∷◌}
use Prim.Native.Nat.{ℕ}
use borrow.Author.Tests.{eqb-true, eq-eqb}
use lib.ListN.{length}
use Rattle.octet_numbers.specs.Runs.{equal_bytes}

pub and_both : (a b : Bool) → (a && b) ≡ true → (a ≡ true) × (b ≡ true)
and_both true b h = (refl, h)
and_both false b h = absurd (false≢true h)

-- equal bytes are the same list
pub equal_true : (a b : List ℕ) → equal_bytes a b ≡ true → a ≡ b
unfolding equal_bytes
equal_true [] [] h = refl
equal_true [] (y ∷ ys) h = absurd (false≢true h)
equal_true (x ∷ xs) [] h = absurd (false≢true h)
equal_true (x ∷ xs) (y ∷ ys) h = let p = and_both _ _ h in cc (eqb-true x y p.0, equal_true xs ys p.1)

pub equal_refl : (a : List ℕ) → equal_bytes a a ≡ true
unfolding equal_bytes
equal_refl [] = refl
equal_refl (x ∷ xs) = rw (eq-eqb x x refl) (equal_refl xs)

-- other lists are not equal
pub equal_false : (a b : List ℕ) → (a ≡ b → ⊥) → equal_bytes a b ≡ false
equal_false a b n = go (equal_bytes a b) refl
  where
    go : (r : Bool) → equal_bytes a b ≡ r → r ≡ false
    go true e = absurd (n (equal_true a b e))
    go false e = refl

pub equal_length : (a b : List ℕ) → (length a ≡ length b → ⊥) → equal_bytes a b ≡ false
equal_length a b n = equal_false a b (λ e. n (ap length e))
