-- The number of slots and what it says of the length: a length that is not 192 times 0 to 64 counts as none.
-- Assumes nothing.
use mathlib.Core.Path.{◌≡◌, refl}
use mathlib.Core.Bool.{Bool, true, false, ◌&&◌, cond}
use mathlib.Core.List.{List}
use Prim.Native.Nat.{ℕ, ◌+◌, ◌*◌, ◌/◌, ◌%◌, ◌≤◌, ◌<◌}
use native.Mathlib.Omega.{arith}
use borrow.Author.Tests.{leb-true}
use lib.Dec.{eqb, leb}
use lib.ListN.{length}
use Rattle.table_slots.specs.Slot.{slot_count}

-- the slots lie in the table, and there are at most 64
pub record Counted (n size : ℕ) : Type 0 where
  pub most : n ≤ 64
  pub fits : n * 192 ≤ size

by_tests : (l : ℕ) (a b : Bool) → leb (l / 192) 64 ≡ b → Counted (cond (a && b) (l / 192) 0) l
by_tests l true true g = let h : l / 192 ≤ 64 = leb-true _ _ g in record { most = h; fits = omega arith }
by_tests l true false g = record { most = omega arith; fits = omega arith }
by_tests l false b g = record { most = omega arith; fits = omega arith }

pub counted : (t : List ℕ) → Counted (slot_count t) (length t)
unfolding slot_count
counted t = by_tests (length t) (eqb (length t % 192) 0) (leb (length t / 192) 64) refl

-- the same of a call's answer
pub counted_is : (n : ℕ) (t : List ℕ) → n ≡ slot_count t → Counted n (length t)
counted_is n t e = rw e (counted t)

-- slot k ends within the table
pub slot_fits : (t : List ℕ) (k : ℕ) → k < slot_count t → (k + 1) * 192 ≤ length t
slot_fits t k h = let c = counted t in omega arith

pub slot_lies : (t : List ℕ) (k n : ℕ) → n ≡ slot_count t → k < n → (k + 1) * 192 ≤ length t
slot_lies t k n e h = slot_fits t k (rw (← e) h)

-- the length alone decides
pub count_same : (t u : List ℕ) → length t ≡ length u → slot_count t ≡ slot_count u
unfolding slot_count
count_same t u e = rw e
