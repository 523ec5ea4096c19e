-- A refusal, or a discard, is the first of a chain of tests that applies. So where there is one, its number is one of those of the chain.
-- Assumes nothing.
use mathlib.Core.Path.{◌≡◌, refl, sym, ap}
use mathlib.Core.Bool.{Bool, true, false, cond, ◌||◌}
use mathlib.Core.List.{List, [], ◌∷◌}
use Prim.Native.Nat.{ℕ}
use borrow.Author.Tests.{eq-eqb}
use lib.Dec.{eqb}
use Rattle.std.specs.Prelude.{Option, Some, None}
use Rattle.std.proofs.lemmas.Option.{none-some, same_Some}
use Rattle.octet_numbers.specs.Runs.{member}

pub or_right : (a b : Bool) → b ≡ true → (a || b) ≡ true
or_right true b h = refl
or_right false b h = h

-- what x holds has, by f, one of the numbers l
pub record OneOf {A : Type 0} (f : A → ℕ) (l : List ℕ) (x : Option A) : Type 0 where
  pub found : (n : A) → x ≡ Some n → member (f n) l ≡ true

module _ {A : Type 0} (f : A → ℕ) where
  -- no test
  pub none_of : OneOf f [] None
  none_of = record { found = λ n e. absurd (none-some n e) }

  first_one : (n m : A) (l : List ℕ) → n ≡ m → member (f m) (f n ∷ l) ≡ true
  first_one n m l e = rw (eq-eqb (f m) (f n) (ap f (sym e)))

  -- a test before the others
  pub one_more : (b : Bool) (n : A) (l : List ℕ) (x : Option A) → OneOf f l x → OneOf f (f n ∷ l) (cond b (Some n) x)
  one_more true n l x h = record { found = λ m e. first_one n m l (same_Some n m e) }
  one_more false n l x h = record { found = λ m e. or_right (eqb (f m) (f n)) (member (f m) l) (h.found m e) }
