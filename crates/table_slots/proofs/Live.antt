-- The tests that decide whether a slot is live: one that fails decides at once, since the definition is their conjunction.
-- Assumes nothing.
use mathlib.Core.Path.{◌≡◌, refl, sym, ◌∙◌}
use mathlib.Core.Bool.{Bool, true, false, not, ◌&&◌}
use mathlib.Core.List.{List}
use Prim.Native.Nat.{ℕ, ◌≤◌}
use borrow.Author.Tests.{le-leb, leb-true, not-true, not-false}
use lib.Dec.{eqb, leb}
use lib.ListN.{get_or}
use Rattle.octet_numbers.proofs.Equality.{and_both}
use Rattle.table_slots.specs.Slot.{within, live}

pub within_is : (lo hi n : ℕ) → lo ≤ n → n ≤ hi → within lo hi n ≡ true
unfolding within
within_is lo hi n h g = rw (le-leb _ _ h, le-leb _ _ g)

pub within_high : (lo hi n : ℕ) → within lo hi n ≡ true → n ≤ hi
unfolding within
within_high lo hi n h = leb-true _ _ (and_both (leb lo n) (leb n hi) h).1

-- a call's answer r, which is the test b, tried as `if !r`
pub refused : (r b : Bool) → r ≡ b → not r ≡ true → b ≡ false
refused r b e h = sym e ∙ not-true r h

pub passed : (r b : Bool) → r ≡ b → not r ≡ false → b ≡ true
passed r b e h = sym e ∙ not-false r h

both_fail : (a b c : Bool) → a && b ≡ false → a && (b && c) ≡ false
both_fail true b c h = rw h
both_fail false b c h = refl

-- a slot that does not open with the record's mark
pub unmarked : (s : List ℕ) → eqb (get_or s 0 0) 0x5A && eqb (get_or s 1 0) 0x4C ≡ false → live s ≡ false
unfolding live
unmarked s h = both_fail (eqb (get_or s 0 0) 0x5A) (eqb (get_or s 1 0) 0x4C) _ h
