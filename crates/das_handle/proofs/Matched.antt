-- A request that passed: the marks of its walk, by the criteria that the pass kept, are the matching sessions, so the commit is that of the definition.
-- Assumes nothing.
use mathlib.Core.Path.{◌≡◌, sym, ap, ◌∙◌}
use mathlib.Core.Bool.{false}
use mathlib.Core.List.{List}
use Prim.Native.Nat.{ℕ, ◌≤◌}
use lib.IntN.{ℤ}
use Rattle.attr_walk.specs.Attributes.{attributes, any, found}
use Rattle.attr_types.specs.Types.{misfitting, first_repeated, none}
use Rattle.std.specs.Prelude.{Option}
use Rattle.attr_survey.specs.declared.counts.Noted.{Noted}
use Rattle.attr_survey.specs.Survey.{Kept}
use Rattle.attr_survey.proofs.Areas.{kept_of}
use Rattle.table_criteria.specs.declared.Criterion.{Criterion}
use Rattle.table_slots.specs.Slot.{slot_count}
use Rattle.table_criteria.specs.Meets.{matches_at}
use Rattle.table_slots.specs.Marks.{marks_after}
use Rattle.rule_causes.specs.declared.cause.Cause.{Cause}
use Rattle.packet_form.specs.Packet.{area_of}
use Rattle.das_reply_parts.specs.Reply.{reply_length}
use Rattle.das_effects.specs.Taken.{taken_criteria}
use Rattle.das_effects.specs.Matching.{matches_in, match_count}
use Rattle.das_effects.proofs.Asked.{kept_marks}
use Rattle.das_answer.specs.declared.Answer as D
use Rattle.das_answer.specs.Replies.{reply_as}
use Rattle.das_answer.specs.Commit.{count_answer, commit_answer, commit_table}
use Rattle.das_handle.specs.Handle.{table_as}
use Rattle.das_handle.specs.Passed.{Committable}
use Rattle.das_handle.proofs.Walked.{commit_answer_lem, commit_table_lem}

pub commits_fits : (p : List ℕ) → Committable p → any misfitting (attributes (area_of p)) ≡ false
commits_fits p h = h.fits

pub commits_short : (p : List ℕ) (c : Option Cause) → Committable p → reply_length p c ≤ 4096
commits_short p c h = h.short c

module _ (p t s m : List ℕ) (cs : List Criterion) (noted : List Noted) (kept : Kept s noted)
    (once : found (first_repeated none (attributes (area_of p))) ≡ false) (area : s ≡ area_of p) (asked : cs ≡ taken_criteria noted)
    (walked : m ≡ marks_after (matches_at s cs t) (slot_count t)) where
  marks : m ≡ marks_after (matches_in (area_of p) t) (slot_count t)
  marks = walked ∙ rw (area, asked) (kept_marks (area_of p) t (slot_count t) noted (kept_of s (area_of p) area noted kept) once)

  -- k' is the skew as the machine holds it
  pub matched_answer : (k k' : ℤ) (r : D.Answer) → r ≡ commit_answer p m t k' → k' ≡ k → r ≡ count_answer p (match_count (area_of p) t) k
  matched_answer k k' r h g = h ∙ commit_answer_lem p t m marks k' ∙ rw g

  pub matched_table : (k : ℤ) (r : D.Answer) (u : List ℕ) → r ≡ commit_answer p m t k → u ≡ commit_table p m t → u ≡ table_as p t r
  matched_table k r u e h = h ∙ commit_table_lem p t m marks k ∙ ap (table_as p t) (sym e)

pub matched_reply : (secret p b u : List ℕ) (r x : D.Answer) → r ≡ x → u ≡ reply_as secret p b x → u ≡ reply_as secret p b r
matched_reply secret p b u r x e h = h ∙ ap (reply_as secret p b) (sym e)
