-- What a write elsewhere in a slot keeps: liveness goes by six bytes, a text by its length byte and the bytes after it.
-- Assumes nothing.
use mathlib.Core.Path.{◌≡◌}
use mathlib.Core.Bool.{Bool, true, ◌&&◌}
use mathlib.Core.List.{List}
use Prim.Native.Nat.{ℕ, ◌+◌, ◌≤◌}
use native.Mathlib.Omega.{arith}
use borrow.Author.Tests.{leb-true}
use lib.ListN.{length, get_or}
use Rattle.octet_numbers.specs.Runs.{write}
use Rattle.octet_numbers.proofs.Equality.{and_both}
use Rattle.octet_numbers.proofs.Part.{part-after}
use Rattle.octet_numbers.proofs.Write.{byte_after}
use Rattle.table_slots.specs.Slot.{within, live, text}

-- ---- liveness

pub live_by : (s s' : List ℕ) → get_or s' 0 0 ≡ get_or s 0 0 → get_or s' 1 0 ≡ get_or s 1 0 → get_or s' 18 0 ≡ get_or s 18 0 → get_or s' 82 0 ≡ get_or s 82 0 → get_or s' 115 0 ≡ get_or s 115 0
    → within 0 32 (get_or s' 148 0) ≡ within 0 32 (get_or s 148 0) → live s' ≡ live s
unfolding live
live_by s s' a b c d e f = rw (a, b, c, d, e, f)

pub and_left : (a b : Bool) → a && b ≡ true → a ≡ true
and_left a b h = (and_both a b h).0

pub and_right : (a b : Bool) → a && b ≡ true → b ≡ true
and_right a b h = (and_both a b h).1

-- the lengths of a live slot's texts
module _ (s : List ℕ) (h : live s ≡ true) where
  pub live_user : get_or s 18 0 ≤ 63
  unfolding live within
  live_user = leb-true _ _ (search (and_left, and_right) depth 8)

  pub live_id : get_or s 82 0 ≤ 32
  unfolding live within
  live_id = leb-true _ _ (search (and_left, and_right) depth 8)

  pub live_station : get_or s 115 0 ≤ 32
  unfolding live within
  live_station = leb-true _ _ (search (and_left, and_right) depth 8)

  pub live_filter : within 0 32 (get_or s 148 0) ≡ true
  unfolding live
  live_filter = search (and_left, and_right) depth 8

-- ---- texts

pub text-after : (s : List ℕ) (i : ℕ) (vs : List ℕ) (a : ℕ) → i + length vs ≤ a → text a (write s i vs) ≡ text a s
unfolding text
text-after s i vs a h = rw (byte_after s i vs a h) (part-after s i vs (a + 1) (get_or s a 0) (omega arith))
