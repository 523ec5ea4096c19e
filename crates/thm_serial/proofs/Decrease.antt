-- Each step that is not refused lowers the bound on the steps still to come (`Potential.antt`), even where it sends jobs back to slot 0: a step
-- that goes on takes one from what its own job has left; one that finishes takes its job out of the count, and with it 64 for each job that is
-- still open, which is the most that sending those back can cost.
-- Assumes nothing.
use mathlib.Core.Path.{◌≡◌, refl}
use mathlib.Core.Bool.{Bool, true, false, cond, false≢true}
use mathlib.Core.List.{List, map}
use Prim.Native.Nat.{ℕ, suc, ◌+◌, ◌*◌, ◌≤◌, ◌<◌}
use native.Mathlib.Omega.{arith}
use borrow.Author.Tests.{ltb-true}
use lib.Dec.{ltb}
use lib.ListN.{length, set}
use lib.IntN.{ℤ}
use Rattle.std.specs.Prelude.{Option, Some, None, Result, Ok, Err}
use Rattle.refusals.specs.declared.Discard.TheVariants as R
use Rattle.packet_blocks.specs.Block.{block_count}
use Rattle.table_slots.specs.Slot.{slot_count}
use Rattle.table_slots.proofs.Count.{counted}
use Rattle.nas_settings.specs.Settings.{Settings}
use Rattle.das_answer.specs.declared.Answer.{Answer}
use Rattle.das_answer.specs.declared.Answer.TheVariants as A
use Rattle.sched_reread.specs.Check.{store_judged}
use Rattle.sched_job.specs.declared.Job as B
use Rattle.sched_job.specs.declared.Stage as S
use Rattle.sched_job.specs.declared.Stage.TheVariants.{Free, Hash, Check, Match}
use Rattle.sched_job.specs.declared.Moved as M
use Rattle.sched_job.specs.Job.{free_job, is_open, restarted}
use Rattle.sched_reread.specs.Reread.{holds_passed}
use Rattle.sched_job.specs.Moves.{going, done, hash_job, checked_as, check_move, match_job, commit_move, slot_move, moved_at}
use Rattle.sched_state.specs.declared.Scheduler as D
use Rattle.sched_state.specs.Scheduler.{job_at, open_at, with_job, restart_all}
use Rattle.sched_state.specs.Calls.{is_ack, stepped_as}
use Rattle.thm_serial.proofs.JobInvariant.{Ended}
use Rattle.thm_serial.proofs.Invariant.{job_flag, open_below}
use Rattle.thm_serial.specs.Serial.{noted}
use Rattle.thm_serial.proofs.Potential.{left, opens, total, pairs, potential, total_set, total_restarted, opens_restarted, pairs_more, open_left_lem}

-- ---- a job that goes on

abbrev pub LessBy : S.Stage → B.Job → Option Answer → Type 0
LessBy x j None = left j.stage < left x
LessBy x j (Some a) = Unit {0}

abbrev pub Less : S.Stage → M.Moved → Type 0
Less x m = LessBy x m.job m.ending

hash_less : (f : Bool) (k n : ℕ) → ltb (k + 1) n ≡ f → n ≤ 66 → left (cond f (Hash (k + 1)) Check) < left (Hash k)
hash_less true k n e h = omega (arith, ltb-true (k + 1) n e)
hash_less false k n e h = omega arith

checked_less : (x : Result ℤ Answer) (j : B.Job) → Less Check (checked_as j x)
checked_less (Err a) j = tt
checked_less (Ok k) j = omega arith

slot_less : (f e : Bool) (k n : ℕ) (j : B.Job) (q t : List ℕ) → ltb k n ≡ e → n ≤ 64
    → Less (Match k) (cond f (cond e (going (match_job j k q t)) (commit_move j q t)) (done (A.Discarded R.Length)))
unfolding match_job commit_move
slot_less true true k n j q t i h = omega (arith, ltb-true k n i)
slot_less true false k n j q t i h = tt
slot_less false e k n j q t i h = tt

pub moved_less : (g : Settings) (x : S.Stage) (j : B.Job) (q t : List ℕ) → block_count (j.length + length g.secret) ≤ 66 → is_open x ≡ true
    → Less x (moved_at g x j q t)
unfolding hash_job check_move slot_move
moved_less g Free j q t h o = absurd (false≢true o)
moved_less g (Hash k) j q t h o = hash_less _ k (block_count (j.length + length g.secret)) refl h
moved_less g Check j q t h o = checked_less (store_judged g j.words j.length j.clock q) j
moved_less g (Match k) j q t h o = slot_less (holds_passed g j.length q) (ltb k (slot_count t)) k (slot_count t) j q t refl (counted t).most

-- ---- the list, after a step

module _ (s : D.Scheduler) (j : ℕ) (stands_open : open_at s.jobs j ≡ true) where
  job_open : is_open (job_at s.jobs j).stage ≡ true
  job_open = unfold open_at in stands_open

  here : j < length s.jobs
  here = open_below s.jobs j stands_open

  going_less : (x : B.Job) → is_open x.stage ≡ true → left x.stage < left (job_at s.jobs j).stage → potential (set s.jobs j x) < potential s.jobs
  unfolding potential
  going_less x o h =
      let same : total opens (set s.jobs j x) ≡ total opens s.jobs = omega (arith, rw (job_open, o) at (total_set opens s.jobs j x here)) in
      rw same (omega (arith, total_set left s.jobs j x here))

  abbrev rest : List B.Job
  rest = set s.jobs j free_job

  fewer : total opens s.jobs ≡ suc (total opens rest)
  fewer = omega (arith, rw job_open at (total_set opens s.jobs j free_job here))

  back_less : (f : Bool) → potential (cond f (map restarted rest) rest) < potential s.jobs
  unfolding potential
  back_less f =
      rw (pairs_more (total opens rest) (total opens s.jobs) fewer)
      (go f (omega (arith, total_set left s.jobs j free_job here, open_left_lem (job_at s.jobs j).stage job_open)))
    where
      go : (f : Bool) → total left rest < total left s.jobs
          → total left (cond f (map restarted rest) rest) + 64 * pairs (total opens (cond f (map restarted rest) rest))
          < total left s.jobs + 64 * (total opens rest + pairs (total opens rest))
      go true z = rw (opens_restarted rest) (omega (arith, total_restarted rest))
      go false z = omega arith

  ack_less : (f : Bool) (x : B.Job) → x ≡ free_job → potential (cond f (restart_all (with_job s j x)) (with_job s j x)).jobs < potential s.jobs
  ack_less true x e = rw e (back_less true)
  ack_less false x e = rw e (back_less false)

  pub put_less : (g : Settings) (p : List ℕ) (clock : ℕ) (q t b u : List ℕ) (x : B.Job) (e : Option Answer) → Ended g p clock q t b x u e
      → LessBy (job_at s.jobs j).stage x e
      → potential (stepped_as s j (record { job = x; ending = e }) e).scheduler.jobs < potential s.jobs
  put_less g p clock q t b u x None k h = going_less x (job_flag g x (noted p clock) q t k.holding) h
  put_less g p clock q t b u x (Some a) k h = ack_less (is_ack a) x k.freed
