-- Match or Commit: what the re-reading told decides first, then whether the place is a slot of the table.
-- Assumes nothing.
use mathlib.Core.Path.{◌≡◌, ap, ◌∙◌}
use mathlib.Core.Bool.{true, false, cond}
use Rattle.refusals.specs.declared.Discard.TheVariants as R
use mathlib.Core.List.{List}
use Prim.Native.Nat.{ℕ, ◌≤◌, ◌<◌}
use borrow.Author.Tests.{lt-ltb, le-ltb}
use lib.Dec.{ltb}
use Rattle.table_slots.specs.Slot.{slot_count}
use Rattle.nas_settings.specs.Settings.{Settings}
use Rattle.das_answer.specs.declared.Answer.TheVariants as A
use Rattle.das_answer.specs.Commit.{commit_table}
use Rattle.sched_job.specs.declared.Job.{Job}
use Rattle.sched_job.specs.declared.Moved.{Moved}
use Rattle.sched_job.specs.Moves.{going, done, match_job, commit_move, slot_move, slot_table, reply_after}
use Rattle.sched_reread.specs.Reread.{holds_passed}

-- ---- by the place

module _ (j : Job) (q t : List ℕ) (k m : ℕ) (is : m ≡ slot_count t) where
  pub slot_here : k < m → k < slot_count t
  slot_here h = rw is at h

  pub match_here : k < m → (i : Job) (r : Moved) → i ≡ match_job j k q t → r ≡ going i → r ≡ cond (ltb k (slot_count t)) (going (match_job j k q t)) (commit_move j q t)
  match_here h i r e g = g ∙ ap going e ∙ rw (← is, lt-ltb _ _ h)

  pub match_table : k < m → t ≡ cond (ltb k (slot_count t)) t (commit_table q j.marks t)
  match_table h = rw (← is, lt-ltb _ _ h)

  pub commit_here : m ≤ k → (r : Moved) → r ≡ commit_move j q t → r ≡ cond (ltb k (slot_count t)) (going (match_job j k q t)) (commit_move j q t)
  commit_here h r e = e ∙ rw (← is, le-ltb _ _ h)

  pub commit_table_lem : m ≤ k → (u : List ℕ) → u ≡ commit_table q j.marks t → u ≡ cond (ltb k (slot_count t)) t (commit_table q j.marks t)
  commit_table_lem h u e = e ∙ rw (← is, le-ltb _ _ h)

-- ---- by the re-reading: p is the packet that was read

module _ (g : Settings) (q t : List ℕ) (k : ℕ) (j : Job) where
  module _ (gone : holds_passed g j.length q ≡ false) where
    pub gone_move : (r : Moved) → r ≡ done (A.Discarded R.Length) → r ≡ slot_move g j k q t
    unfolding slot_move
    gone_move r e = e ∙ rw gone

    pub gone_table : t ≡ slot_table g j k q t
    unfolding slot_table
    gone_table = rw gone

  module _ (held : holds_passed g j.length q ≡ true) (p : List ℕ) (same : p ≡ q) where
    pub held_move : (r : Moved) → r ≡ cond (ltb k (slot_count t)) (going (match_job j k p t)) (commit_move j p t) → r ≡ slot_move g j k q t
    unfolding slot_move
    held_move r e = e ∙ rw (same, held)

    pub held_table : (u : List ℕ) → u ≡ cond (ltb k (slot_count t)) t (commit_table p j.marks t) → u ≡ slot_table g j k q t
    unfolding slot_table
    held_table u e = e ∙ rw (same, held)

    pub held_reply : (secret b u : List ℕ) (r : Moved) → u ≡ reply_after secret p b r.ending → u ≡ reply_after secret q b r.ending
    held_reply secret b u r e = e ∙ rw same
