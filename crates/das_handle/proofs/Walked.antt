-- The marks of a walk over all slots are the matching sessions: so the commit by them answers and changes as the definition of a whole request does. Where
-- none matches nothing is changed.
-- Assumes nothing.
use mathlib.Core.Path.{◌≡◌, refl, ◌∙◌}
use mathlib.Core.Bool.{Bool, true, false, cond}
use mathlib.Core.List.{List}
use Prim.Native.Nat.{ℕ}
use borrow.Author.Tests.{eqb-true}
use lib.Dec.{eqb}
use lib.IntN.{ℤ}
use Rattle.table_slots.specs.Slot.{slot_count}
use Rattle.table_slots.specs.Marks.{marks_after}
use Rattle.table_change.specs.Change.{count_marked}
use Rattle.std.specs.Prelude.{Some, None}
use Rattle.rule_causes.specs.declared.cause.Cause.TheVariants.{SessionNotFound}
use Rattle.packet_form.specs.Packet.{code_of, area_of}
use Rattle.das_reply_parts.specs.Reply.{reply_length}
use Rattle.das_effects.specs.Matching.{matches_in, match_count}
use Rattle.das_effects.specs.Changes.{change_of, change_matching}
use Rattle.das_effects.proofs.Marked.{counted_matching, changed_matching, none-marked}
use Rattle.das_answer.specs.declared.Answer.TheVariants as A
use Rattle.das_answer.specs.Commit.{count_answer, commit_answer, commit_table}
use Rattle.das_handle.specs.Handle.{table_as}

module _ (p t m : List ℕ) (walked : m ≡ marks_after (matches_in (area_of p) t) (slot_count t)) where
  pub commit_answer_lem : (skew : ℤ) → commit_answer p m t skew ≡ count_answer p (match_count (area_of p) t) skew
  unfolding commit_answer
  commit_answer_lem skew = rw (walked, counted_matching (area_of p) t)

  by_count : (f : Bool) (n x y : ℕ) (skew : ℤ) → eqb n 0 ≡ f → count_marked m (slot_count t) t ≡ n
      → commit_table p m t ≡ table_as p t (cond f (A.Nak SessionNotFound skew x) (A.Ack n skew y))
  unfolding commit_table change_matching
  by_count true n x y skew h e = none-marked (area_of p) (change_of (code_of p) (area_of p)) m (slot_count t) t (e ∙ eqb-true n 0 h)
  by_count false n x y skew h e = rw walked (changed_matching (area_of p) t (change_of (code_of p) (area_of p)))

  pub commit_table_lem : (skew : ℤ) → commit_table p m t ≡ table_as p t (commit_answer p m t skew)
  unfolding commit_answer count_answer
  commit_table_lem skew =
      by_count (eqb (count_marked m (slot_count t) t) 0) (count_marked m (slot_count t) t) (reply_length p (Some SessionNotFound)) (reply_length p None) skew refl refl
