-- A job that making and our calls can have produced stays one after a move, whatever table and store hold: a job just opened has a block to hash,
-- one that hashed a block goes to the next only where there is one, and of the other stages nothing is asked.
-- Assumes nothing.
use mathlib.Core.Path.{◌≡◌, refl}
use mathlib.Core.Bool.{Bool, true, false, cond}
use mathlib.Core.List.{List}
use Prim.Native.Nat.{ℕ, ◌+◌}
use borrow.Author.Tests.{ltb-true}
use lib.Dec.{ltb}
use lib.ListN.{length}
use lib.IntN.{ℤ}
use Rattle.std.specs.Prelude.{None, Result, Ok, Err}
use Rattle.refusals.specs.declared.Discard.TheVariants as R
use Rattle.packet_blocks.specs.Block.{block_count}
use Rattle.table_slots.specs.Slot.{slot_count}
use Rattle.packet_form.specs.Packet.{length_of}
use Rattle.nas_settings.specs.Settings.{Settings}
use Rattle.packet_form.specs.Discards.{form_of}
use Rattle.packet_form.proofs.Forms.{form_sized}
use Rattle.das_answer.specs.declared.Answer.{Answer}
use Rattle.das_answer.specs.declared.Answer.TheVariants as A
use Rattle.sched_reread.specs.Check.{store_judged}
use Rattle.sched_job.specs.declared.Job as B
use Rattle.sched_job.specs.declared.Stage as S
use Rattle.sched_job.specs.declared.Stage.TheVariants.{Free, Hash, Check, Match}
use Rattle.sched_job.specs.Job.{first_job, restarted_at, restarted, Placed, JobOurs}
use Rattle.sched_reread.specs.Reread.{holds_passed}
use Rattle.sched_job.specs.Moves.{going, done, hash_job, checked_as, check_move, match_job, commit_move, slot_move, moved_at, moved}
use Rattle.thm_serial.proofs.OpenedJob.{some_block}

-- ---- a job; n is the secret's length

hash_placed : (f : Bool) (k n l : ℕ) → ltb (k + 1) (block_count (l + n)) ≡ f → Placed n (Hash k) l → Placed n (cond f (Hash (k + 1)) Check) l
hash_placed true k n l e h = (h.0, h.1, ltb-true (k + 1) (block_count (l + n)) e)
hash_placed false k n l e h = tt

checked_placed : (n : ℕ) (x : Result ℤ Answer) (j : B.Job) → JobOurs n (checked_as j x).job
checked_placed n (Err a) j = tt
checked_placed n (Ok k) j = tt

slot_placed : (f e : Bool) (n k : ℕ) (j : B.Job) (q t : List ℕ)
    → JobOurs n (cond f (cond e (going (match_job j k q t)) (commit_move j q t)) (done (A.Discarded R.Length))).job
unfolding match_job commit_move
slot_placed true true n k j q t = tt
slot_placed true false n k j q t = tt
slot_placed false e n k j q t = tt

stage_placed : (g : Settings) (n : ℕ) (x : S.Stage) (j : B.Job) (q t : List ℕ) → length g.secret ≡ n → j.stage ≡ x → Placed n x j.length
    → JobOurs n (moved_at g x j q t).job
unfolding hash_job check_move slot_move
stage_placed g n Free j q t e i h = rw i h
stage_placed g n (Hash k) j q t e i h = rw e (hash_placed (ltb (k + 1) (block_count (j.length + n))) k n j.length refl h)
stage_placed g n Check j q t e i h = checked_placed n (store_judged g j.words j.length j.clock q) j
stage_placed g n (Match k) j q t e i h = slot_placed (holds_passed g j.length q) (ltb k (slot_count t)) n k j q t

pub moved_ours : (g : Settings) (n : ℕ) (j : B.Job) (q t : List ℕ) → length g.secret ≡ n → JobOurs n j → JobOurs n (moved g j q t).job
unfolding moved
moved_ours g n j q t e h = stage_placed g n j.stage j q t e refl h

back_placed : (n : ℕ) (x : S.Stage) (j : B.Job) → j.stage ≡ x → Placed n x j.length → JobOurs n (restarted_at x j)
back_placed n Free j e h = rw e h
back_placed n (Hash k) j e h = rw e h
back_placed n Check j e h = rw e h
back_placed n (Match k) j e h = tt

pub restarted_ours : (n : ℕ) (j : B.Job) → JobOurs n j → JobOurs n (restarted j)
unfolding restarted
restarted_ours n j h = back_placed n j.stage j refl h

pub first_ours : (n : ℕ) (p : List ℕ) (clock : ℕ) → form_of p ≡ None → JobOurs n (first_job (length_of p) clock)
first_ours n p clock e = let z = form_sized p e in (z.low, z.high, some_block (length_of p + n))
