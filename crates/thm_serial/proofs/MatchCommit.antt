-- Match and Commit keep the invariant of a job whose request passed Check. Each Match examines the next slot, and the marks after all slots are the
-- matching sessions, so Commit answers and changes the table as handling the packet whole does.
-- Assumes nothing.
use mathlib.Core.Path.{◌≡◌, refl, sym, ap, ◌∙◌}
use mathlib.Core.Bool.{Bool, true, false, cond}
use mathlib.Core.List.{List}
use Prim.Native.Nat.{ℕ, suc, ◌≤◌}
use native.Mathlib.Numerals.{add-one}
use native.Mathlib.Omega.{arith}
use borrow.Author.Tests.{ltb-true, ltb-false}
use lib.Dec.{ltb}
use lib.ListN.{set}
use Rattle.std.specs.Prelude.{None}
use Rattle.table_slots.specs.Slot.{slot_count}
use Rattle.table_slots.specs.Marks.{marks_after}
use Rattle.rule_stamp.specs.Stamp.{stamp_of}
use Rattle.rule_verdict.specs.declared.Verdict.TheVariants as J
use Rattle.packet_form.specs.Packet.{length_of, area_of}
use Rattle.nas_settings.specs.Settings.{Settings}
use Rattle.packet_form.specs.Discards.{form_of}
use Rattle.packet_laws.proofs.SameBytes.{SamePacket}
use Rattle.rule_verdict.specs.Discards.{signed_by}
use Rattle.das_effects.specs.Matching.{matches_in}
use Rattle.das_answer.specs.Commit.{commit_answer, commit_table}
use Rattle.das_handle.specs.Refusals.{refusal_of}
use Rattle.das_handle.specs.Handle.{table_as}
use Rattle.das_handle.proofs.Walked.{commit_answer_lem, commit_table_lem}
use Rattle.sched_job.specs.declared.Job as B
use Rattle.sched_reread.specs.Reread.{holds_passed}
use Rattle.sched_job.specs.Moves.{going, match_job, skew_at, commit_move, slot_move, slot_table}
use Rattle.thm_serial.proofs.SameAnswers.{answer_same, table_same}
use Rattle.thm_serial.proofs.PassedCheck.{Passing, passing_holds}
use Rattle.thm_serial.proofs.JobInvariant.{Right, ends_with, handled_as}

module _ (g : Settings) (p : List ℕ) (clock : ℕ) (q t b : List ℕ) (open-to : refusal_of g t b ≡ None) (good : form_of p ≡ None)
    (same : SamePacket p q)
    (passed : Passing g (signed_by g.secret p) p clock) where
  commit_right : (j : B.Job) → j.clock ≡ clock → j.marks ≡ marks_after (matches_in (area_of p) t) (slot_count t)
      → Right g p clock q t b (commit_move j q t) (commit_table q j.marks t)
  unfolding commit_move
  commit_right j c walked =
      let skew = skew_at (stamp_of (area_of p)) clock in
      let a : commit_answer q j.marks t (skew_at (stamp_of (area_of q)) j.clock) ≡ commit_answer p j.marks t skew =
      rw (answer_same p q same, same.area, c) in
      ends_with g p clock q t b (commit_answer q j.marks t (skew_at (stamp_of (area_of q)) j.clock)) (commit_table q j.marks t) same
      (handled_as g p clock q t b open-to good (J.Passed skew) passed.verdict ∙ sym (a ∙ commit_answer_lem p t j.marks walked skew))
      (table_same p q same j.marks t ∙ commit_table_lem p t j.marks walked skew ∙ ap (table_as p t) (sym a))

  next_marks : (k : ℕ) (m : List ℕ) → m ≡ marks_after (matches_in (area_of p) t) k
      → cond (matches_in (area_of q) t k) (set m k 1) m ≡ marks_after (matches_in (area_of p) t) (suc k)
  unfolding marks_after
  next_marks k m e = rw (same.area, e)

  by_slot : (f : Bool) (k : ℕ) (j : B.Job) → ltb k (slot_count t) ≡ f → j.length ≡ length_of p → j.clock ≡ clock → k ≤ slot_count t
      → j.marks ≡ marks_after (matches_in (area_of p) t) k
      → Right g p clock q t b (cond f (going (match_job j k q t)) (commit_move j q t)) (cond f t (commit_table q j.marks t))
  unfolding match_job
  by_slot true k j e l c h i =
      record {
        holding = record {
          long = l;
          clock_is = c;
          same = same;
          good = good;
          place = rw add-one (passed, ltb-true k (slot_count t) e, next_marks k j.marks i);
        };
        kept = refl;
      }
  by_slot false k j e l c h i =
      let n : k ≡ slot_count t = omega (arith, ltb-false k (slot_count t) e) in
      commit_right j c (i ∙ ap (marks_after (matches_in (area_of p) t)) n)

  pub slot_right : (k : ℕ) (j : B.Job) → j.length ≡ length_of p → j.clock ≡ clock → k ≤ slot_count t
      → j.marks ≡ marks_after (matches_in (area_of p) t) k
      → Right g p clock q t b (slot_move g j k q t) (slot_table g j k q t)
  unfolding slot_move slot_table
  slot_right k j l c h i =
      let still : holds_passed g j.length q ≡ true =
      ap (λ (n : ℕ). holds_passed g n q) l ∙ passing_holds p q same good g (signed_by g.secret p) clock passed in
      rw still (by_slot (ltb k (slot_count t)) k j refl l c h i)
