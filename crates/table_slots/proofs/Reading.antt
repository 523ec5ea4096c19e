-- Reading a slot: past the end of the table it is empty, and within it the part taken is the definition's.
-- Assumes nothing.
use mathlib.Core.Path.{◌≡◌}
use mathlib.Core.List.{List}
use Prim.Native.Nat.{ℕ, ◌+◌, ◌*◌, ◌/◌, ◌-◌, ◌≤◌, ◌<◌}
use native.Mathlib.Omega.{arith}
use lib.ListN.{length, take, drop, length-drop}
use lib.Seq.{take_all}
use mathlib.Core.Path.{ap}
use Rattle.octet_numbers.specs.Runs.{part}
use Rattle.octet_numbers.proofs.Part.{part_past, part_of, length_part}
use Rattle.table_slots.specs.Slot.{slot}

pub slot_past : (t : List ℕ) (k : ℕ) → length t / 192 < k → take 0 t ≡ slot k t
unfolding slot
slot_past t k h = part_past (k * 192) 192 t (omega arith)

-- the code's `&t[a..a + 192]`
pub slot_whole : (t : List ℕ) (k : ℕ) → take (k * 192 + 192 - k * 192) (drop (k * 192) t) ≡ slot k t
unfolding slot
slot_whole t k = part_of (k * 192) 192 t

pub slot_long : (t : List ℕ) (k : ℕ) → (k + 1) * 192 ≤ length t → length (take (k * 192 + 192 - k * 192) (drop (k * 192) t)) ≡ 192
slot_long t k h = rw (part_of (k * 192) 192 t) (length_part (k * 192) 192 t (omega arith))

-- the code's part of `&s[i + 1..]`
pub text_rest : (s : List ℕ) (i n : ℕ) → part 0 n (take (length s - (i + 1)) (drop (i + 1) s)) ≡ part (i + 1) n s
unfolding part
text_rest s i n =
    let h : length (drop (i + 1) s) ≤ length s - (i + 1) = rw length-drop (omega arith) in
    ap (take n) (take_all (length s - (i + 1)) (drop (i + 1) s) h)
