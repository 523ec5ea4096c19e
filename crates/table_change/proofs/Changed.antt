-- What changes do, slot by slot: each slot that is named is changed once, every other slot is as it was, and changes of different slots commute.
-- Assumes nothing.
use mathlib.Core.Path.{◌≡◌, refl, sym, ap, ◌∙◌}
use mathlib.Core.Bool.{Bool, true, false, ◌&&◌, cond, false≢true}
use mathlib.Core.List.{List}
use mathlib.Core.Logic.{⊎_elim}
use Prim.Native.Nat.{ℕ, zero, suc, ◌+◌, ◌*◌, ◌≤◌, ◌<◌}
use native.Mathlib.Nat.{eq-or-lt_of_le, le_of_suc-le-suc}
use native.Mathlib.Omega.{arith}
use lib.Dec.{eqb}
use lib.ListN.{length}
use Rattle.octet_numbers.specs.Runs.{write}
use Rattle.table_slots.specs.Slot.{slot_count, slot, live}
use Rattle.table_slots.proofs.Count.{counted}
use Rattle.table_slots.proofs.Places.{length-slot, slot_short, slot-written, slots_commute}
use Rattle.table_slots.specs.Marks.{marks_after, count_to}
use Rattle.table_slots.proofs.Marked.{mark_at, count_same}
use Rattle.table_change.specs.declared.Change.{Change}
use Rattle.table_change.specs.Change.{changed, change_at, change_where, marked, change_marked, count_marked}
use Rattle.table_change.proofs.Slots.{length-changed, changed_short, change_other, length-change_where, other_by, slot-later}

pub change_here : (area : List ℕ) (c : Change) (k : ℕ) (t : List ℕ) → (k + 1) * 192 ≤ length t
    → slot k (change_at area c k t) ≡ changed area c (slot k t)
unfolding change_at
change_here area c k t h = slot-written t (changed area c (slot k t)) k h (length-changed area c (slot k t) (length-slot t k h))

pub changes_commute : (area area' : List ℕ) (c d : Change) (j k : ℕ) (t : List ℕ) → (j ≡ k → ⊥)
    → change_at area c j (change_at area' d k t) ≡ change_at area' d k (change_at area c j t)
unfolding change_at
changes_commute area area' c d j k t n =
    let r : List ℕ = changed area c (slot j t) in
    let s : List ℕ = changed area' d (slot k t) in
    ap (λ (u : List ℕ). write (write t (k * 192) s) (j * 192) (changed area c u)) (change_other area' d j k t n)
    ∙ slots_commute t r s j k n (changed_short area c (slot j t) (slot_short t j)) (changed_short area' d (slot k t) (slot_short t k))
    ∙ sym (ap (λ (u : List ℕ). write (write t (j * 192) r) (k * 192) (changed area' d u)) (change_other area c k j t (λ e. n (sym e))))

-- ---- the first n slots, by a test f

module _ (area : List ℕ) (c : Change) (f : ℕ → Bool) where
  here_by : (b : Bool) (j : ℕ) (u s : List ℕ) → b ≡ true → slot j u ≡ s → (j + 1) * 192 ≤ length u
      → slot j (cond b (change_at area c j u) u) ≡ changed area c s
  here_by b j u s e g h = rw e (change_here area c j u h ∙ ap (changed area c) g)

  slot_named : (n : ℕ) (t : List ℕ) (j : ℕ) → n * 192 ≤ length t → j < n → f j ≡ true → slot j (change_where area c f n t) ≡ changed area c (slot j t)
  unfolding change_where
  slot_named zero t j h l e = absurd (omega arith)
  slot_named (suc n) t j h l e =
      ⊎_elim
      (λ (same : j ≡ n). rw (← same) (here_by (f j) j (change_where area c f j t) (slot j t) e (slot-later area c f j j t (omega arith)) (rw length-change_where (omega arith))))
      (λ (below : j < n). other_by area c (f n) j n (change_where area c f n t) (λ r. omega arith) ∙ slot_named n t j (omega arith) below e)
      (eq-or-lt_of_le (le_of_suc-le-suc l))

  kept_by : (b : Bool) (j n : ℕ) (u : List ℕ) → (b ≡ true → j ≡ n → ⊥) → slot j (cond b (change_at area c n u) u) ≡ slot j u
  kept_by true j n u g = change_other area c j n u (g refl)
  kept_by false j n u g = refl

  slot_kept : (n : ℕ) (t : List ℕ) (j : ℕ) → f j ≡ false → slot j (change_where area c f n t) ≡ slot j t
  unfolding change_where
  slot_kept zero t j e = refl
  slot_kept (suc n) t j e = kept_by (f n) j n (change_where area c f n t) (λ g same. false≢true (sym e ∙ ap f same ∙ g)) ∙ slot_kept n t j e

  slot_by : (b : Bool) (n : ℕ) (t : List ℕ) (j : ℕ) → n * 192 ≤ length t → j < n → f j ≡ b
      → slot j (change_where area c f n t) ≡ cond b (changed area c (slot j t)) (slot j t)
  slot_by true n t j h l e = slot_named n t j h l e
  slot_by false n t j h l e = slot_kept n t j e

  -- exactly the slots that f names are changed
  pub slot-changed : (n : ℕ) (t : List ℕ) (j : ℕ) → n * 192 ≤ length t → j < n
      → slot j (change_where area c f n t) ≡ cond (f j) (changed area c (slot j t)) (slot j t)
  slot-changed n t j h l = slot_by (f j) n t j h l refl

-- tests that agree on these slots change alike
change_same : (area : List ℕ) (c : Change) (f g : ℕ → Bool) (n : ℕ) (t : List ℕ) → ((i : ℕ) → i < n → f i ≡ g i)
    → change_where area c f n t ≡ change_where area c g n t
unfolding change_where
change_same area c f g zero t h = refl
change_same area c f g (suc n) t h = rw (h n (omega arith), change_same area c f g n t (λ i l. h i (omega arith)))

-- ---- marks that name live slots, as those of a walk do

module _ (f : ℕ → Bool) (t : List ℕ) (lives : (i : ℕ) → f i ≡ true → live (slot i t) ≡ true) where
  test_by : (b : Bool) (m : ℕ) (s : List ℕ) → m ≡ cond b 1 0 → (b ≡ true → live s ≡ true) → (eqb m 1 && live s) ≡ b
  test_by true m s e l = rw (e, l refl)
  test_by false m s e l = rw e

  named : (k : ℕ) → k < slot_count t → marked (marks_after f (slot_count t)) t k ≡ f k
  named k h =
      let c = counted t in
      test_by (f k) _ (slot k t) (mark_at f (slot_count t) k h (omega arith)) (lives k)

  -- they change exactly the slots that f names
  pub named_changed : (area : List ℕ) (c : Change)
      → change_marked area c (marks_after f (slot_count t)) (slot_count t) t ≡ change_where area c f (slot_count t) t
  unfolding change_marked
  named_changed area c = change_same area c (marked (marks_after f (slot_count t)) t) f (slot_count t) t named

  -- and count them
  pub named_counted : count_marked (marks_after f (slot_count t)) (slot_count t) t ≡ count_to f (slot_count t)
  unfolding count_marked
  named_counted = count_same (marked (marks_after f (slot_count t)) t) f (slot_count t) named
