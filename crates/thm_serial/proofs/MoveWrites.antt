-- A move of a job leaves the table, unless it is a Commit that ends in ACK, whatever job, table and store hold: no other move writes it, and a
-- Commit that finds no slot marked and live changes nothing.
-- Assumes nothing.
use mathlib.Core.Path.{◌≡◌, refl, ◌∙◌}
use mathlib.Core.Bool.{Bool, true, false, cond, not, true≢false}
use mathlib.Core.List.{List}
use Prim.Native.Nat.{ℕ}
use borrow.Author.Tests.{eqb-true}
use lib.Dec.{eqb, ltb}
use lib.IntN.{ℤ}
use Rattle.std.specs.Prelude.{Option, Some, None}
use Rattle.refusals.specs.declared.Discard.TheVariants as R
use Rattle.table_slots.specs.Slot.{slot_count}
use Rattle.table_change.specs.Change.{count_marked}
use Rattle.rule_causes.specs.declared.cause.Cause.TheVariants.{SessionNotFound}
use Rattle.packet_form.specs.Packet.{code_of, area_of}
use Rattle.nas_settings.specs.Settings.{Settings}
use Rattle.das_effects.specs.Changes.{change_of}
use Rattle.das_effects.proofs.Marked.{none-marked}
use Rattle.das_answer.specs.declared.Answer as A'
use Rattle.das_answer.specs.declared.Answer.TheVariants as A
use Rattle.das_answer.specs.Commit.{count_answer, commit_answer, commit_table}
use Rattle.sched_job.specs.declared.Job as B
use Rattle.sched_job.specs.declared.Stage as S
use Rattle.sched_job.specs.declared.Stage.TheVariants.{Free, Hash, Check, Match}
use Rattle.sched_reread.specs.Reread.{holds_passed}
use Rattle.sched_job.specs.Moves.{going, done, match_job, commit_move, slot_move, slot_table, moved_at, moved_table_at}
use Rattle.sched_state.specs.Calls.{is_ack}
use Rattle.thm_serial.specs.Steps.{awaits}

-- the move ended in ACK
abbrev pub acked : Option A'.Answer → Bool
acked None = false
acked (Some a) = is_ack a

-- ---- the table

module _ (q t : List ℕ) where
  by_count : (f : Bool) (m : List ℕ) (n x y : ℕ) (skew : ℤ) → eqb n 0 ≡ f → count_marked m (slot_count t) t ≡ n
      → is_ack (cond f (A.Nak SessionNotFound skew x) (A.Ack n skew y)) ≡ false → commit_table q m t ≡ t
  unfolding commit_table
  by_count true m n x y skew h e a = none-marked (area_of q) (change_of (code_of q) (area_of q)) m (slot_count t) t (e ∙ eqb-true n 0 h)
  by_count false m n x y skew h e a = absurd (true≢false a)

  commit_kept : (m : List ℕ) (skew : ℤ) → is_ack (commit_answer q m t skew) ≡ false → commit_table q m t ≡ t
  unfolding commit_answer count_answer
  commit_kept m skew a = by_count (eqb (count_marked m (slot_count t) t) 0) m (count_marked m (slot_count t) t) _ _ skew refl refl a

  slot_kept : (f e : Bool) (j : B.Job) (k : ℕ)
      → acked (cond f (cond e (going (match_job j k q t)) (commit_move j q t)) (done (A.Discarded R.Length))).ending ≡ false
      → cond f (cond e t (commit_table q j.marks t)) t ≡ t
  unfolding commit_move
  slot_kept true true j k a = refl
  slot_kept true false j k a = commit_kept j.marks _ a
  slot_kept false e j k a = refl

  slot_early : (f e : Bool) (m : List ℕ) → not e ≡ false → cond f (cond e t (commit_table q m t)) t ≡ t
  slot_early true true m h = refl
  slot_early true false m h = absurd (true≢false h)
  slot_early false e m h = refl

  module _ (g : Settings) (j : B.Job) where
    pub stage_kept : (x : S.Stage) → acked (moved_at g x j q t).ending ≡ false → moved_table_at g x j q t ≡ t
    unfolding slot_move slot_table
    stage_kept Free a = refl
    stage_kept (Hash k) a = refl
    stage_kept Check a = refl
    stage_kept (Match k) a = slot_kept (holds_passed g j.length q) (ltb k (slot_count t)) j k a

    pub stage_early : (x : S.Stage) → awaits x t ≡ false → moved_table_at g x j q t ≡ t
    unfolding slot_table
    stage_early Free a = refl
    stage_early (Hash k) a = refl
    stage_early Check a = refl
    stage_early (Match k) a = slot_early (holds_passed g j.length q) (ltb k (slot_count t)) j.marks a
