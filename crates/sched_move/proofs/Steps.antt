-- One step, by the stage; and what a step leaves is again a job of ours: a block still to hash is one of the message.
-- Assumes nothing.
use mathlib.Core.Path.{◌≡◌, refl, ap, ◌∙◌}
use mathlib.Core.Bool.{Bool, true, false, cond}
use mathlib.Core.List.{List}
use Prim.Native.Nat.{ℕ, ◌+◌, ◌≤◌, ◌<◌}
use borrow.Author.Tests.{ltb-true}
use lib.Dec.{ltb}
use lib.ListN.{length}
use Rattle.packet_blocks.specs.Block.{block_count}
use Rattle.table_slots.specs.Slot.{slot_count}
use Rattle.nas_settings.specs.Settings.{Settings}
use lib.IntN.{ℤ}
use Rattle.std.specs.Prelude.{Result, Ok, Err}
use Rattle.das_answer.specs.declared.Answer.{Answer}
use Rattle.sched_reread.specs.Check.{store_judged}
use Rattle.sched_job.specs.declared.Job.{Job}
use Rattle.sched_job.specs.declared.Stage.TheVariants.{Free, Hash, Check, Match}
use Rattle.sched_job.specs.declared.Moved.{Moved}
use Rattle.sched_job.specs.Job.{Placed, JobOurs}
use Rattle.sched_reread.specs.Reread.{holds_passed}
use Rattle.sched_job.specs.Moves.{going, hash_job, checked_as, check_move, match_job, commit_move, slot_move, slot_table, moved, moved_table}

-- ---- by the stage

module _ (g : Settings) (j : Job) (q t : List ℕ) (r : Moved) where
  pub step_free : j.stage ≡ Free → r ≡ going j → r ≡ moved g j q t
  unfolding moved
  step_free h e = e ∙ rw h

  pub step_hash : (k : ℕ) (i : Job) → j.stage ≡ Hash k → i ≡ hash_job g.secret j k q → r ≡ going i → r ≡ moved g j q t
  unfolding moved
  step_hash k i h p e = e ∙ ap going p ∙ rw h

  pub step_check : j.stage ≡ Check → r ≡ check_move g j q → r ≡ moved g j q t
  unfolding moved
  step_check h e = e ∙ rw h

  pub step-slot : (k : ℕ) → j.stage ≡ Match k → r ≡ slot_move g j k q t → r ≡ moved g j q t
  unfolding moved
  step-slot k h e = e ∙ rw h

module _ (g : Settings) (j : Job) (q t : List ℕ) where
  pub table_free : j.stage ≡ Free → t ≡ moved_table g j q t
  unfolding moved_table
  table_free h = rw h

  pub table_hash : (k : ℕ) → j.stage ≡ Hash k → t ≡ moved_table g j q t
  unfolding moved_table
  table_hash k h = rw h

  pub table_check : j.stage ≡ Check → t ≡ moved_table g j q t
  unfolding moved_table
  table_check h = rw h

  pub table_slot : (k : ℕ) (u : List ℕ) → j.stage ≡ Match k → u ≡ slot_table g j k q t → u ≡ moved_table g j q t
  unfolding moved_table
  table_slot k u h e = e ∙ rw h

-- ---- a job of ours

module _ (secret : List ℕ) (k : ℕ) (j : Job) (ours : JobOurs (length secret) j) (h : j.stage ≡ Hash k) where
  there : (20 ≤ j.length) × (j.length ≤ 4096) × (k < block_count (j.length + length secret))
  there = rw h at ours

  pub ours_low : 20 ≤ j.length
  ours_low = there.0

  pub ours_high : j.length ≤ 4096
  ours_high = there.1

  pub ours_given : (q : List ℕ) → length q ≡ 4096 → j.length ≤ length q
  ours_given q e = rw e ours_high

  pub ours_block : k < block_count (j.length + length secret)
  ours_block = there.2

  next : (b : Bool) → ltb (k + 1) (block_count (j.length + length secret)) ≡ b → Placed (length secret) (cond b (Hash (k + 1)) Check) j.length
  next true e = (ours_low, ours_high, ltb-true _ _ e)
  next false e = tt

  pub ours_hash : (q : List ℕ) (i : Job) (r : Moved) → i ≡ hash_job secret j k q → r ≡ going i → JobOurs (length secret) r.job
  unfolding hash_job
  ours_hash q i r p e = rw (e, p) (next (ltb (k + 1) (block_count (j.length + length secret))) refl)

pub ours_free : (s : ℕ) (j : Job) (r : Moved) → JobOurs s j → r ≡ going j → JobOurs s r.job
ours_free s j r h e = rw e h

checked_ours : (s : ℕ) (j : Job) (x : Result ℤ Answer) → JobOurs s (checked_as j x).job
checked_ours s j (Err a) = tt
checked_ours s j (Ok k) = tt

pub ours_check : (s : ℕ) (g : Settings) (j : Job) (q : List ℕ) (r : Moved) → r ≡ check_move g j q → JobOurs s r.job
unfolding check_move
ours_check s g j q r e = rw e (checked_ours s j (store_judged g j.words j.length j.clock q))

slot_ours : (s k : ℕ) (g : Settings) (j : Job) (q t : List ℕ) (a b : Bool) → holds_passed g j.length q ≡ a → ltb k (slot_count t) ≡ b → JobOurs s (slot_move g j k q t).job
unfolding slot_move match_job commit_move
slot_ours s k g j q t true true e h = rw (e, h) tt
slot_ours s k g j q t true false e h = rw (e, h) tt
slot_ours s k g j q t false b e h = rw e tt

pub ours_slot : (s k : ℕ) (g : Settings) (j : Job) (q t : List ℕ) (r : Moved) → r ≡ slot_move g j k q t → JobOurs s r.job
ours_slot s k g j q t r e = rw e (slot_ours s k g j q t (holds_passed g j.length q) (ltb k (slot_count t)) refl refl)
