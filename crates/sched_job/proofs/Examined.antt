-- Match: what the pass kept asks the same of a slot as all attributes, since no type but 33 stands twice; and a table has at most 64 slots, so there is a mark for each.
-- Assumes nothing.
use mathlib.Core.Path.{◌≡◌, ◌∙◌}
use mathlib.Core.Bool.{Bool, false}
use mathlib.Core.List.{List}
use Prim.Native.Nat.{ℕ, ◌<◌}
use native.Mathlib.Omega.{arith}
use Rattle.attr_walk.specs.Attributes.{attributes, found}
use Rattle.attr_types.specs.Types.{first_repeated, none}
use Rattle.attr_survey.specs.declared.counts.Noted.{Noted}
use Rattle.attr_survey.specs.Survey.{Kept}
use Rattle.attr_survey.proofs.Areas.{kept_of}
use Rattle.table_criteria.specs.declared.Criterion.{Criterion}
use Rattle.table_slots.specs.Slot.{slot, slot_count}
use Rattle.table_criteria.specs.Meets.{matches_at}
use Rattle.table_slots.proofs.Count.{counted}
use Rattle.packet_form.specs.Packet.{area_of}
use Rattle.das_effects.specs.Taken.{taken_criteria}
use Rattle.das_effects.specs.Matching.{matches_in}
use Rattle.das_effects.proofs.Asked.{kept_match}

pub slot_below : (t : List ℕ) (k : ℕ) → k < slot_count t → k < 64
slot_below t k h = let c = counted t in omega arith

pub match_law : (q s t : List ℕ) (k : ℕ) (cs : List Criterion) (noted : List Noted) (r : Bool) → s ≡ area_of q → cs ≡ taken_criteria noted → r ≡ matches_at s cs t k
    → Kept s noted → found (first_repeated none (attributes (area_of q))) ≡ false → r ≡ matches_in (area_of q) t k
match_law q s t k cs noted r area kept e i once = e ∙ rw (area, kept) (kept_match (area_of q) (slot k t) noted (kept_of s (area_of q) area noted i) once)
