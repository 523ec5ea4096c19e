-- What a request leaves: each slot is changed by itself, exactly where it matches, so after a Disconnect no matching session is live.
-- Assumes nothing.
use mathlib.Core.Path.{◌≡◌, refl, ap, ◌∙◌}
use mathlib.Core.Bool.{Bool, true, false, cond}
use mathlib.Core.List.{List}
use Prim.Native.Nat.{ℕ, ◌<◌}
use native.Mathlib.Omega.{arith}
use lib.ListN.{length}
use Rattle.table_slots.specs.Slot.{slot_count, slot, live}
use Rattle.table_slots.proofs.Count.{counted, count_same}
use Rattle.table_slots.proofs.Marked.{count_none}
use Rattle.table_change.specs.Change.{changed}
use Rattle.table_change.proofs.Slots.{length-change_where}
use Rattle.table_change.proofs.Changed.{slot-changed}
use Rattle.table_change.proofs.Written.{ended_free}
use Rattle.das_effects.specs.Matching.{session_matches, matches_in, match_count}
use Rattle.das_effects.specs.Changes.{change_of, change_matching}

-- ---- of a request of any code

module _ (code : ℕ) (area t : List ℕ) where
  pub length-after : length (change_matching code area t) ≡ length t
  unfolding change_matching
  length-after = length-change_where area (change_of code area) (matches_in area t) (slot_count t) t

  pub count_after : slot_count (change_matching code area t) ≡ slot_count t
  count_after = count_same (change_matching code area t) t length-after

  pub slot-after : (k : ℕ) → k < slot_count t → slot k (change_matching code area t) ≡ cond (matches_in area t k) (changed area (change_of code area) (slot k t)) (slot k t)
  unfolding change_matching
  slot-after k h = let c = counted t in slot-changed area (change_of code area) (matches_in area t) (slot_count t) t k (omega arith) h

  pub slot_matching : (k : ℕ) → k < slot_count t → matches_in area t k ≡ true → slot k (change_matching code area t) ≡ changed area (change_of code area) (slot k t)
  slot_matching k h e = slot-after k h ∙ rw e

  pub slot_other : (k : ℕ) → k < slot_count t → matches_in area t k ≡ false → slot k (change_matching code area t) ≡ slot k t
  slot_other k h e = slot-after k h ∙ rw e

-- ---- of a Disconnect

module _ (area t : List ℕ) (k : ℕ) (h : k < slot_count t) where
  pub ended_after : matches_in area t k ≡ true → live (slot k (change_matching 40 area t)) ≡ false
  unfolding change_of
  ended_after e = ap live (slot_matching 40 area t k h e) ∙ ended_free area (slot k t)

  free_none : (s : List ℕ) → live s ≡ false → session_matches area s ≡ false
  unfolding session_matches
  free_none s e = rw e

  left_by_lem : (b : Bool) → matches_in area t k ≡ b → matches_in area (change_matching 40 area t) k ≡ false
  left_by_lem true e = free_none (slot k (change_matching 40 area t)) (ended_after e)
  left_by_lem false e = ap (session_matches area) (slot_other 40 area t k h e) ∙ e

  pub none_left : matches_in area (change_matching 40 area t) k ≡ false
  none_left = left_by_lem (matches_in area t k) refl

-- the same request finds no session then
pub count_left : (area t : List ℕ) → match_count area (change_matching 40 area t) ≡ 0
unfolding match_count
count_left area t = count_none (matches_in area (change_matching 40 area t)) (slot_count (change_matching 40 area t)) (λ k h. none_left area t k (rw (count_after 40 area t) at h))
