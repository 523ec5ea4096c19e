-- The walks that a new session asks for: to a live slot with its Acct-Session-Id, and to the lowest free slot.
-- Assumes nothing.
use mathlib.Core.Path.{◌≡◌, refl, sym, ◌∙◌}
use mathlib.Core.Bool.{Bool, true, false, not, ◌&&◌, cond, or-true}
use mathlib.Core.List.{List}
use mathlib.Core.Logic.{⊎_elim}
use Prim.Native.Nat.{ℕ, zero, suc, ◌+◌, ◌*◌, ◌-◌, ◌≤◌, ◌<◌}
use native.Mathlib.Nat.{eq-or-lt_of_le, le_of_suc-le-suc, le_antisymm}
use native.Mathlib.Numerals.{add-one}
use native.Mathlib.Omega.{arith}
use lib.ListN.{length}
use borrow.Author.Tests.{eq-eqb, ne_eqb, eqb-false}
use lib.Dec.{eqb}
use Rattle.std.specs.Prelude.{None, Some}
use Rattle.std.proofs.lemmas.Option.{none-some, same_Some}
use Rattle.octet_numbers.specs.Runs.{equal_bytes}
use Rattle.table_slots.specs.Slot.{slot_count, slot, live, session_id}
use Rattle.table_slots.proofs.Live.{passed, refused}
use Rattle.table_slots.proofs.Count.{counted_is}
use Rattle.table_sessions.specs.Session.{id_live, free_from, free_slot}

-- ---- the walk to a live slot with this id: none of the first k is one

pub id_none : (id t : List ℕ) → false ≡ id_live id t 0
unfolding id_live
id_none id t = refl

found_by : (id t : List ℕ) (k n : ℕ) → k < n → live (slot k t) && equal_bytes id (session_id (slot k t)) ≡ true → id_live id t n ≡ true
unfolding id_live
found_by id t k zero h e = absurd (omega arith)
found_by id t k (suc n) h e =
    ⊎_elim
    (λ (same : k ≡ n). rw (← same, e) (or-true (id_live id t k)))
    (λ (below : k < n). rw (found_by id t k n below e))
    (eq-or-lt_of_le (le_of_suc-le-suc h))

module _ (id t : List ℕ) (k n : ℕ) (r : Bool) (e : r ≡ live (slot k t) && equal_bytes id (session_id (slot k t))) where
  pub id_found : k < n → r ≡ true → true ≡ id_live id t n
  id_found h g = sym (found_by id t k n h (sym e ∙ g))

  pub id_next : false ≡ id_live id t k → r ≡ false → false ≡ id_live id t (k + 1)
  unfolding id_live
  id_next h g = rw (add-one, ← h, ← e, g)

-- ---- the walk to the lowest free slot: r is the whole answer, that from slot k on; b is whether slot k is live

module _ (t : List ℕ) (r k n : ℕ) (all : r ≡ free_from t 0 n) (e : r ≡ free_from t k (n - k)) (most : k ≤ n) where
  module _ (b : Bool) (is : b ≡ live (slot k t)) (h : k < n) where
    pub free_next : not b ≡ false → r ≡ free_from t (k + 1) (n - (k + 1))
    unfolding free_from
    free_next l =
        let d : n - k ≡ suc (n - (k + 1)) = omega arith in
        e ∙ rw (d, passed b _ is l, add-one)

    pub free_here : not b ≡ true → Some k ≡ free_slot t n
    unfolding free_from
    free_here l =
        let d : n - k ≡ suc (n - (k + 1)) = omega arith in
        let g : r ≡ k = e ∙ rw (d, refused b _ is l) in
        let z : k ≡ free_from t 0 n = sym g ∙ all in
        rw (← z, ne_eqb k n (λ same. omega arith))

  pub free_end : n ≤ k → None ≡ free_slot t n
  unfolding free_from
  free_end h =
      let d : n - k ≡ 0 = omega arith in
      let g : r ≡ k = e ∙ rw d in
      let z : k ≡ free_from t 0 n = sym g ∙ all in
      rw (← z, eq-eqb k n (le_antisymm most h))

-- ---- the slot found is free, and those before it are live

free_by : (t : List ℕ) (b : Bool) (k a n : ℕ) → live (slot k t) ≡ b → (cond b a k ≡ k + suc n → ⊥) → ((a ≡ suc k + n → ⊥) → live (slot a t) ≡ false) → live (slot (cond b a k) t) ≡ false
free_by t true k a n e h g = g (λ same. h (omega arith))
free_by t false k a n e h g = e

pub found_free : (t : List ℕ) (k n : ℕ) → (free_from t k n ≡ k + n → ⊥) → live (slot (free_from t k n) t) ≡ false
unfolding free_from
found_free t k zero h = absurd (h (omega arith))
found_free t k (suc n) h = free_by t (live (slot k t)) k (free_from t (suc k) n) n refl h (found_free t (suc k) n)

lower_by : (t : List ℕ) (b : Bool) (i k a : ℕ) → live (slot k t) ≡ b → k ≤ i → i < cond b a k → (suc k ≤ i → i < a → live (slot i t) ≡ true) → live (slot i t) ≡ true
lower_by t true i k a e h l g = ⊎_elim (λ (same : k ≡ i). rw (← same) e) (λ (above : k < i). g above l) (eq-or-lt_of_le h)
lower_by t false i k a e h l g = absurd (omega arith)

pub lower_live : (t : List ℕ) (k n i : ℕ) → k ≤ i → i < free_from t k n → live (slot i t) ≡ true
unfolding free_from
lower_live t k zero i h l = absurd (omega arith)
lower_live t k (suc n) i h l = lower_by t (live (slot k t)) i k (free_from t (suc k) n) refl h l (lower_live t (suc k) n i)

-- ---- it lies in the table

most_by : (b : Bool) (a k n : ℕ) → a ≤ k + suc n → cond b a k ≤ k + suc n
most_by true a k n h = h
most_by false a k n h = omega arith

pub free_most : (t : List ℕ) (k n : ℕ) → free_from t k n ≤ k + n
unfolding free_from
free_most t k zero = omega arith
free_most t k (suc n) = most_by (live (slot k t)) (free_from t (suc k) n) k n (omega (arith, free_most t (suc k) n))

pub free_fits : (t : List ℕ) (k n : ℕ) → n ≡ slot_count t → k ≡ free_from t 0 n → (k ≡ n → ⊥) → (k + 1) * 192 ≤ length t
free_fits t k n e f h =
    let c = counted_is n t e in
    let m : k ≤ n = rw f (omega (arith, free_most t 0 n)) in
    let d : k < n = ⊎_elim (λ (same : k ≡ n). absurd (h same)) (λ (below : k < n). below) (eq-or-lt_of_le m) in
    omega arith

-- a slot that is found, of the n that the table has, ends within it
pub free_inside : (t : List ℕ) (k n : ℕ) → n ≡ slot_count t → free_slot t n ≡ Some k → (k + 1) * 192 ≤ length t
free_inside t k n h e = by (eqb (free_from t 0 n) n) refl e
  where
    by : (b : Bool) → eqb (free_from t 0 n) n ≡ b → cond b None (Some (free_from t 0 n)) ≡ Some k → (k + 1) * 192 ≤ length t
    by true g f = absurd (none-some k f)
    by false g f = free_fits t k n h (sym (same_Some _ _ f)) (λ same. eqb-false _ _ g (same_Some _ _ f ∙ same))
