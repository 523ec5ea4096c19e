-- The criteria that the pass kept ask the same as all attributes: no type but 33 stands twice, so the first of its type is the only one.
-- Assumes nothing.
use mathlib.Core.Path.{◌≡◌, refl, sym, ap, ◌∙◌}
use mathlib.Core.Bool.{Bool, true, false, not, ◌&&◌, and-true, not-not}
use mathlib.Core.List.{List}
use Prim.Native.Nat.{ℕ, ◌<◌}
use native.Mathlib.Omega.{arith}
use lib.Dec.{lit<}
use Rattle.octet_numbers.specs.Runs.{equal_bytes}
use Rattle.attr_walk.specs.declared.Attribute.{Attribute}
use Rattle.std.specs.Prelude.{Option, Some, None}
use Rattle.std.specs.List.{cons_option}
use Rattle.std.specs.Option.{option_map}
use Rattle.attr_walk.specs.Attributes.{attributes, value_of, found, first_of, kind_is, on_first}
use Rattle.attr_walk.proofs.Searches.{only}
use Rattle.attr_types.specs.Types.{first_repeated, none}
use Rattle.attr_survey.specs.declared.counts.Noted.{Noted}
use Rattle.attr_survey.specs.Survey.{Kept}
use Rattle.attr_types.proofs.Repeats.{at_most_once}
use Rattle.table_criteria.specs.declared.Criterion.{Criterion}
use Rattle.table_criteria.specs.declared.Field.{Field}
use Rattle.table_criteria.specs.declared.Field.TheVariants.{UserName, NasPort, FramedAddress, CallingStation, SessionId}
use Rattle.table_slots.specs.Slot.{slot}
use Rattle.table_criteria.specs.Meets.{field_bytes, meets, all, matches, matches_at}
use Rattle.table_slots.specs.Marks.{marks_after}
use Rattle.table_slots.proofs.Marked.{marks_same}
use Rattle.das_effects.specs.Taken.{taken_criterion, if_there, taken_criteria}
use Rattle.das_effects.specs.Matching.{equals_field, all_of, session_matches, matches_in}
use Rattle.das_effects.specs.Changes.{text_at}
use Rattle.das_effects.proofs.Values.{value_kept}
use Rattle.das_effects.proofs.Five.{asks, five, all_same, all_both, all_none}

-- one criterion, where it is there, and the rest
abbrev holds : (Criterion → Bool) → Option Criterion → Bool
holds f (Some c) = f c
holds f None = true

all_cons : (f : Criterion → Bool) (x : Option Criterion) (l : List Criterion) → all f (cons_option x l) ≡ (holds f x && all f l)
all_cons f (Some c) l = refl
all_cons f None l = refl

module _ (area s : List ℕ) where
  -- an attribute equals a field
  abbrev same : Field → Attribute → Bool
  same x a = equal_bytes (value_of area a) (field_bytes x s)

  -- the criterion made of the first of a type
  first_asks : (x : Field) (z : Option Attribute) → holds (meets area s) (option_map (taken_criterion x) (text_at z)) ≡ not (on_first (λ a. not (same x a)) z)
  unfolding meets value_of
  first_asks x (Some a) = rw not-not
  first_asks x None = refl

  -- what the attributes of a type ask
  abbrev by : ℕ → Field → Attribute → Bool
  by k x a = asks a.kind (λ y. same y a) k x

  all_five : (l : List Attribute) → all_of (equals_field area s) l
      ≡ (all_of (by 1 UserName) l && (all_of (by 5 NasPort) l && (all_of (by 8 FramedAddress) l && (all_of (by 31 CallingStation) l && all_of (by 44 SessionId) l))))
  unfolding equals_field
  all_five l = rw (← all_both, ← all_both, ← all_both, ← all_both) (all_same _ _ l (λ a. five a.kind (λ y. same y a)))

  module _ (noted : List Noted) (i : Kept area noted) (once : found (first_repeated none (attributes area)) ≡ false) where
    one : (x : Field) (k : ℕ) → k < 256 → (k ≡ 33 → ⊥) → holds (meets area s) (if_there x k noted) ≡ all_of (by k x) (attributes area)
    one x k h ne =
        rw (value_kept area noted i k h ne) (first_asks x (first_of (kind_is k) (attributes area)))
        ∙ ap not (sym (only (kind_is k) (λ a. not (same x a)) (attributes area) (at_most_once (attributes area) once k ne)))
        ∙ sym (all_none (kind_is k) (same x) (attributes area))

    asked : all (meets area s) (taken_criteria noted) ≡ all_of (equals_field area s) (attributes area)
    unfolding taken_criteria
    asked =
        simp (all_cons, and-true)
        (rw (
          one UserName 1 (lit< tt) (λ e. omega arith),
          one NasPort 5 (lit< tt) (λ e. omega arith),
          one FramedAddress 8 (lit< tt) (λ e. omega arith),
          one CallingStation 31 (lit< tt) (λ e. omega arith),
          one SessionId 44 (lit< tt) (λ e. omega arith),
        )
        (sym (all_five (attributes area))))

    pub kept_match : matches area (taken_criteria noted) s ≡ session_matches area s
    unfolding matches session_matches
    kept_match = rw asked

-- so the walk over the slots marks the same
pub kept_marks : (area t : List ℕ) (k : ℕ) (noted : List Noted) → Kept area noted → found (first_repeated none (attributes area)) ≡ false
    → marks_after (matches_at area (taken_criteria noted) t) k ≡ marks_after (matches_in area t) k
kept_marks area t k noted i once =
    marks_same (matches_at area (taken_criteria noted) t) (matches_in area t) k (λ j h. kept_match area (slot j t) noted i once)
