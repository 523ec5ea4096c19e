-- Texts read back: a text field holds its length, its value and zeros, and what is read of a part is read of the whole.
-- Assumes nothing.
use mathlib.Core.Path.{◌≡◌, refl, sym, ap, ◌∙◌}
use mathlib.Core.List.{List, [], ◌∷◌}
use Prim.Native.Nat.{ℕ, zero, suc, ◌+◌, ◌-◌, ◌≤◌, ◌<◌}
use native.Mathlib.Nat.{add-zero, zero-add, suc-add}
use native.Mathlib.Omega.{arith}
use lib.ListN.{length, get_or, take, drop, replicate, length-take}
use lib.Seq.{take-nil, take_all, take-take, take-append_seam, drop-drop}
use Rattle.octet_numbers.specs.Runs.{part, write}
use Rattle.octet_numbers.proofs.Part.{byte_part, part-written}
use Rattle.table_slots.specs.Slot.{text}
use Rattle.table_records.specs.Record.{text_field}
use Rattle.table_records.proofs.Fields.{length-text_field}

drop-take : (a m : ℕ) (l : List ℕ) → drop a (take (a + m) l) ≡ take m (drop a l)
drop-take zero m l = ap (λ (k : ℕ). take k l) (zero-add m)
drop-take (suc a) m [] = ap (drop (suc a)) (take-nil (suc a + m)) ∙ sym (take-nil m)
drop-take (suc a) m (x ∷ l) = ap (λ (k : ℕ). drop (suc a) (take k (x ∷ l))) (suc-add a m) ∙ drop-take a m l

-- a part of a part
part-part : (l : List ℕ) (i m a n : ℕ) → a + n ≤ m → part a n (part i m l) ≡ part (i + a) n l
unfolding part
part-part l i m a n h =
    let e : m ≡ a + (m - a) = omega arith in
    ap (λ (k : ℕ). take n (drop a (take k (drop i l)))) e
    ∙ ap (take n) (drop-take a (m - a) (drop i l))
    ∙ take-take n (m - a) (drop a (drop i l)) (omega arith)
    ∙ ap (take n) (drop-drop a i l)

-- a text in a part
text_in : (l : List ℕ) (i m : ℕ) → get_or l i 0 < m → text i l ≡ text 0 (part i m l)
unfolding text
text_in l i m h =
    let b : get_or (part i m l) 0 0 ≡ get_or l i 0 = byte_part i m l 0 (omega arith) ∙ ap (λ (k : ℕ). get_or l k 0) (add-zero i) in
    rw b (sym (part-part l i m 1 (get_or l i 0) (omega arith)))

field_text : (cap : ℕ) (v : List ℕ) → text 0 (text_field cap v) ≡ take cap v
unfolding text text_field part
field_text cap v = take-append_seam (take cap v) (replicate (cap - length (take cap v)) 0)

field_head : (cap : ℕ) (v : List ℕ) → get_or (text_field cap v) 0 0 ≡ length (take cap v)
unfolding text_field
field_head cap v = refl

-- ---- where a text field lies in l

module _ (l : List ℕ) (i cap : ℕ) (v : List ℕ) (e : part i (cap + 1) l ≡ text_field cap v) where
  pub head_there : get_or l i 0 ≡ length (take cap v)
  head_there =
      ap (λ (k : ℕ). get_or l k 0) (sym (add-zero i))
      ∙ sym (byte_part i (cap + 1) l 0 (omega arith))
      ∙ ap (λ (u : List ℕ). get_or u 0 0) e
      ∙ field_head cap v

  pub text_there : text i l ≡ take cap v
  text_there =
      let h : get_or l i 0 < cap + 1 = rw (head_there, length-take) (omega arith) in
      text_in l i (cap + 1) h ∙ ap (text 0) e ∙ field_text cap v

-- what was written
pub field_written : (s : List ℕ) (i cap : ℕ) (v : List ℕ) → i + (cap + 1) ≤ length s → part i (cap + 1) (write s i (text_field cap v)) ≡ text_field cap v
field_written s i cap v h =
    let l : length (text_field cap v) ≡ cap + 1 = length-text_field cap v in
    rw l at (part-written s i (text_field cap v) (omega arith))

pub take_fits : (cap : ℕ) (v : List ℕ) → length v ≤ cap → take cap v ≡ v
take_fits cap v h = take_all cap v h
