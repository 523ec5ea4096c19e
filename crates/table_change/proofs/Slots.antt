-- Changes slot by slot: a change writes its slot alone, so a slot that the walk has not reached is as it was.
-- Assumes nothing.
use mathlib.Core.Path.{◌≡◌, refl, ◌∙◌}
use mathlib.Core.Bool.{Bool, true, false, cond}
use mathlib.Core.List.{List}
use Prim.Native.Nat.{ℕ, zero, suc, ◌*◌, ◌≤◌}
use native.Mathlib.Omega.{arith}
use lib.ListN.{length, length-replicate}
use Rattle.octet_numbers.proofs.Write.{length-write}
use Rattle.table_slots.specs.Slot.{slot}
use Rattle.table_slots.proofs.Places.{slot-written_other, slot_short}
use Rattle.table_change.specs.declared.Change.{Change}
use Rattle.table_change.specs.declared.Change.TheVariants.{End, Alter}
use Rattle.table_change.specs.Change.{changed, change_at, change_where}
use Rattle.table_change.proofs.Alter.{length-altered}

pub length-changed : (area : List ℕ) (c : Change) (s : List ℕ) → length s ≡ 192 → length (changed area c s) ≡ 192
unfolding changed
length-changed area End s h = length-replicate {A = ℕ} 192 0
length-changed area (Alter a) s h = length-altered area a s ∙ h

pub changed_short : (area : List ℕ) (c : Change) (s : List ℕ) → length s ≤ 192 → length (changed area c s) ≤ 192
unfolding changed
changed_short area End s h = rw length-replicate (omega arith)
changed_short area (Alter a) s h = rw (length-altered area a s) h

module _ (area : List ℕ) (c : Change) where
  pub length-change_at : (k : ℕ) (t : List ℕ) → length (change_at area c k t) ≡ length t
  unfolding change_at
  length-change_at k t = length-write t (k * 192) (changed area c (slot k t))

  pub change_other : (j k : ℕ) (t : List ℕ) → (j ≡ k → ⊥) → slot j (change_at area c k t) ≡ slot j t
  unfolding change_at
  change_other j k t n = slot-written_other t (changed area c (slot k t)) j k n (changed_short area c (slot k t) (slot_short t k))

  -- ---- the walk

  long_by : (b : Bool) (k : ℕ) (u : List ℕ) → length (cond b (change_at area c k u) u) ≡ length u
  long_by true k u = length-change_at k u
  long_by false k u = refl

  pub other_by : (b : Bool) (j k : ℕ) (u : List ℕ) → (j ≡ k → ⊥) → slot j (cond b (change_at area c k u) u) ≡ slot j u
  other_by true j k u n = change_other j k u n
  other_by false j k u n = refl

  module _ (f : ℕ → Bool) where
    pub length-change_where : (k : ℕ) (t : List ℕ) → length (change_where area c f k t) ≡ length t
    unfolding change_where
    length-change_where zero t = refl
    length-change_where (suc k) t = long_by (f k) k (change_where area c f k t) ∙ length-change_where k t

    -- slots from k on
    pub slot-later : (j k : ℕ) (t : List ℕ) → k ≤ j → slot j (change_where area c f k t) ≡ slot j t
    unfolding change_where
    slot-later j zero t h = refl
    slot-later j (suc k) t h = other_by (f k) j k (change_where area c f k t) (λ e. omega arith) ∙ slot-later j k t (omega arith)
