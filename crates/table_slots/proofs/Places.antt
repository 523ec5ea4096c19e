-- Slots and writes: a write within slot k is that write to the slot, and leaves every other slot, since slots lie 192 bytes apart.
-- Assumes nothing.
use mathlib.Core.Path.{◌≡◌, sym, ap, ◌∙◌}
use mathlib.Core.List.{List}
use mathlib.Core.Logic.{⊎_elim, ◌⊎◌, inl, inr}
use Prim.Native.Nat.{ℕ, zero, suc, ◌+◌, ◌*◌, ◌≤◌, ◌<◌, zero-le, suc-le-suc}
use native.Mathlib.Nat.{add-zero}
use native.Mathlib.Omega.{arith}
use lib.ListN.{length, length-take}
use Rattle.octet_numbers.specs.Runs.{part, write}
use Rattle.octet_numbers.proofs.Part.{length_part, part-after, part_before, part-write}
use Rattle.octet_numbers.proofs.Write.{write_whole, write_apart}
use Rattle.table_slots.specs.Slot.{slot}
use Rattle.table_slots.proofs.Overwrite.{write_same}

pub lt_or_le : (m n : ℕ) → (m < n) ⊎ (n ≤ m)
lt_or_le m zero = inr zero-le
lt_or_le zero (suc n) = inl (omega arith)
lt_or_le (suc m) (suc n) = ⊎_elim (λ h. inl (suc-le-suc h)) (λ h. inr (suc-le-suc h)) (lt_or_le m n)

pub slot-write : (t : List ℕ) (k i : ℕ) (vs : List ℕ) → i + length vs ≤ 192 → slot k (write t (k * 192 + i) vs) ≡ write (slot k t) i vs
unfolding slot
slot-write t k i vs h = part-write t (k * 192) 192 i vs h

pub slot-write_other : (t : List ℕ) (j k i : ℕ) (vs : List ℕ) → (j ≡ k → ⊥) → i + length vs ≤ 192 → slot j (write t (k * 192 + i) vs) ≡ slot j t
unfolding slot
slot-write_other t j k i vs n h =
    ⊎_elim
    (λ (l : j < k). part_before t (k * 192 + i) vs (j * 192) 192 (omega arith))
    (λ (l : k ≤ j). part-after t (k * 192 + i) vs (j * 192) 192 (omega arith))
    (lt_or_le j k)

pub length-slot : (t : List ℕ) (k : ℕ) → (k + 1) * 192 ≤ length t → length (slot k t) ≡ 192
unfolding slot
length-slot t k h = length_part (k * 192) 192 t (omega arith)

-- a slot has at most 192 bytes, also where the table ends in it
pub slot_short : (t : List ℕ) (k : ℕ) → length (slot k t) ≤ 192
unfolding slot part
slot_short t k = rw length-take (omega arith)

-- a slot written where it lies
pub slot_same : (t : List ℕ) (k : ℕ) → (k + 1) * 192 ≤ length t → t ≡ write t (k * 192) (slot k t)
unfolding slot
slot_same t k h = write_same t (k * 192) 192 (omega arith)

-- ---- a slot written as a whole

pub slot-written : (t s : List ℕ) (k : ℕ) → (k + 1) * 192 ≤ length t → length s ≡ 192 → slot k (write t (k * 192) s) ≡ s
slot-written t s k h e =
    ap (λ (a : ℕ). slot k (write t a s)) (sym (add-zero (k * 192)))
    ∙ slot-write t k 0 s (omega arith)
    ∙ write_whole (slot k t) s (e ∙ sym (length-slot t k h))

pub slot-written_other : (t s : List ℕ) (j k : ℕ) → (j ≡ k → ⊥) → length s ≤ 192 → slot j (write t (k * 192) s) ≡ slot j t
slot-written_other t s j k n h =
    ap (λ (a : ℕ). slot j (write t a s)) (sym (add-zero (k * 192)))
    ∙ slot-write_other t j k 0 s n (omega arith)

-- two slots are written in either order
pub slots_commute : (t r s : List ℕ) (j k : ℕ) → (j ≡ k → ⊥) → length r ≤ 192 → length s ≤ 192
    → write (write t (k * 192) s) (j * 192) r ≡ write (write t (j * 192) r) (k * 192) s
slots_commute t r s j k n hr hs =
    ⊎_elim
    (λ (l : j < k). write_apart t (j * 192) (k * 192) r s (omega arith))
    (λ (l : k ≤ j). sym (write_apart t (k * 192) (j * 192) s r (omega arith)))
    (lt_or_le j k)
