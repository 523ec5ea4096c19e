-- The marks after all slots are exactly the matching slots, and a matching slot is live: what is done by marks is done to the matching sessions.
-- Assumes nothing.
use mathlib.Core.Path.{◌≡◌, refl, ◌∙◌}
use mathlib.Core.Bool.{Bool, true, false, cond}
use mathlib.Core.List.{List}
use Prim.Native.Nat.{ℕ, zero, suc, ◌+◌}
use native.Mathlib.Omega.{arith}
use Rattle.octet_numbers.proofs.Equality.{and_both}
use Rattle.attr_walk.specs.Attributes.{attributes, found}
use Rattle.attr_types.specs.Types.{first_repeated, none}
use Rattle.attr_survey.specs.declared.counts.Noted.{Noted}
use Rattle.attr_survey.specs.Survey.{Kept}
use Rattle.table_slots.specs.Slot.{slot_count, slot, live}
use Rattle.table_criteria.specs.Meets.{matches_at}
use Rattle.table_slots.specs.Marks.{marks_after, count_to}
use Rattle.table_change.specs.declared.Change.{Change}
use Rattle.table_change.specs.Change.{change_at, change_where, marked, change_marked, count_marked}
use Rattle.table_change.proofs.Changed.{named_changed, named_counted}
use Rattle.das_effects.specs.Taken.{taken_criteria}
use Rattle.das_effects.specs.Matching.{session_matches, matches_in, match_count}
use Rattle.das_effects.specs.Changes.{change_of, change_matching}
use Rattle.das_effects.proofs.Asked.{kept_marks}

pub matching_live : (area s : List ℕ) → session_matches area s ≡ true → live s ≡ true
unfolding session_matches
matching_live area s h = (and_both _ _ h).0

module _ (area t : List ℕ) where
  pub changed_matching : (c : Change) → change_marked area c (marks_after (matches_in area t) (slot_count t)) (slot_count t) t ≡ change_where area c (matches_in area t) (slot_count t) t
  changed_matching c = named_changed (matches_in area t) t (λ i h. matching_live area (slot i t) h) area c

  pub counted_matching : count_marked (marks_after (matches_in area t) (slot_count t)) (slot_count t) t ≡ match_count area t
  unfolding match_count
  counted_matching = named_counted (matches_in area t) t (λ i h. matching_live area (slot i t) h)

-- ---- where nothing is marked and live, nothing changes

none_by : (b : Bool) (n : ℕ) (u v t : List ℕ) → cond b (n + 1) n ≡ 0 → (n ≡ 0 → v ≡ t) → cond b u v ≡ t
none_by true n u v t e ih = absurd (omega arith)
none_by false n u v t e ih = ih e

pub none-marked : (area : List ℕ) (c : Change) (marks : List ℕ) (k : ℕ) (t : List ℕ) → count_marked marks k t ≡ 0 → change_marked area c marks k t ≡ t
unfolding count_marked count_to change_marked change_where
none-marked area c marks zero t e = refl
none-marked area c marks (suc k) t e =
    none_by (marked marks t k) (count_to (marked marks t) k) (change_at area c k (change_marked area c marks k t)) (change_marked area c marks k t) t e (none-marked area c marks k t)

-- ---- the walk by the criteria that the pass kept: m is its marks

module _ (area t m : List ℕ) (noted : List Noted) (i : Kept area noted) (once : found (first_repeated none (attributes area)) ≡ false)
    (e : m ≡ marks_after (matches_at area (taken_criteria noted) t) (slot_count t)) where
  matching : m ≡ marks_after (matches_in area t) (slot_count t)
  matching = e ∙ kept_marks area t (slot_count t) noted i once

  pub marks_change : (code : ℕ) → change_marked area (change_of code area) m (slot_count t) t ≡ change_matching code area t
  unfolding change_matching
  marks_change code = rw matching (changed_matching area t (change_of code area))

  pub marks_count : count_marked m (slot_count t) t ≡ match_count area t
  marks_count = rw matching (counted_matching area t)
