-- Demand 1 of a step: a refusal is the number of the first test that applies, and then nothing is changed; a discard is that of the job's move,
-- which frees the job, leaves the table and writes no reply.
-- Assumes nothing.
use mathlib.Core.Path.{◌≡◌, refl, ap, subst}
use mathlib.Core.Bool.{Bool, true, cond, not, ◌||◌}
use mathlib.Core.List.{List, [], ◌∷◌}
use Prim.Native.Nat.{ℕ}
use lib.Dec.{eqb, ltb}
use lib.ListN.{length}
use Rattle.std.specs.Prelude.{Option, Some, None, is_none}
use Rattle.octet_numbers.specs.Runs.{member}
use Rattle.refusals.specs.declared.Refusal.{Refusal}
use Rattle.refusals.specs.declared.Refusal.TheVariants as R
use Rattle.refusals.specs.Numbers.{refusal_number, discard_number}
use Rattle.table_slots.specs.Slot.{slot_count}
use Rattle.das_answer.specs.declared.Answer as A'
use Rattle.das_answer.specs.declared.Answer.TheVariants as A
use Rattle.sched_job.specs.declared.Moved as M
use Rattle.sched_job.specs.Job.{free_job}
use Rattle.sched_job.specs.Moves.{moved_table, reply_after}
use Rattle.sched_state.specs.declared.Scheduler as D
use Rattle.sched_state.specs.declared.Called as C
use Rattle.sched_state.specs.declared.Outcome.TheVariants as O
use Rattle.sched_state.specs.Scheduler.{settings_of, job_at, open_at, with_job, part_of}
use Rattle.sched_state.specs.Refusals.{step_refusal, drop_refusal}
use Rattle.sched_state.specs.Calls.{called, unless_refused, stepped_as, moved_of, step_called, step_table, step_reply}
use Rattle.thm_demands.specs.Demand1.{Comes}
use Rattle.thm_demands.proofs.Cascades.{OneOf, none_of, one_more}
use Rattle.thm_demands.proofs.AnswerKinds.{WhenRefused, WhenDone}
use Rattle.thm_demands.proofs.MoveEnds.{QuitAs, move_quits, move_ends}

refusal_one : (f : ℕ → Bool) (size j : ℕ) (t b : List ℕ) → OneOf refusal_number (1 ∷ 4 ∷ 5 ∷ 7 ∷ []) (step_refusal f size j t b)
unfolding step_refusal drop_refusal
refusal_one f size j t b =
    one_more refusal_number (eqb (slot_count t) 0) R.TableLength _ _
    (one_more refusal_number (ltb (length b) 4096) R.OutputRoom _ _
    (one_more refusal_number (not (eqb size 16384)) R.StoreLength _ _
    (one_more refusal_number (ltb 3 j || not (f j)) R.NoSuchJob _ _ (none_of refusal_number))))

module _ (s : D.Scheduler) (t b store : List ℕ) (j : ℕ) where
  abbrev refusal : Option Refusal
  refusal = step_refusal (open_at s.jobs) (length store) j t b

  -- c is the call's result, u the table and v the reply buffer after it
  abbrev Refusing : C.Called → List ℕ → List ℕ → Refusal → Type 0
  Refusing c u v n = (member (refusal_number n) (1 ∷ 4 ∷ 5 ∷ 7 ∷ []) ≡ true) × (refusal ≡ Some n) × (c.scheduler ≡ s) × (u ≡ t) × (v ≡ b)

  abbrev Quiet : C.Called → List ℕ → List ℕ → A'.Answer → Type 0
  Quiet c u v (A.Refused n) = ⊥
  Quiet c u v (A.Discarded d) =
      (member (discard_number d) (1 ∷ 4 ∷ 5 ∷ 6 ∷ []) ≡ true) × Comes s j store (A.Discarded d)
      × (c.scheduler ≡ with_job s j free_job) × (u ≡ t) × (v ≡ b)
  Quiet c u v (A.Stale k) = Comes s j store (A.Stale k) × (c.scheduler ≡ with_job s j free_job) × (u ≡ t) × (v ≡ b)
  Quiet c u v (A.Nak c' k n) = Unit {0}
  Quiet c u v (A.Ack m k n) = Unit {0}

  abbrev shown : Option Refusal → M.Moved → Option A'.Answer → C.Called
  shown f m e = unless_refused s f (stepped_as s j m e)

  abbrev replied : Option Refusal → Option A'.Answer → List ℕ
  replied f e = cond (is_none f) (reply_after (settings_of s).secret (part_of j store) b e) b

  refused_by : (f : Option Refusal) (m : M.Moved) (e : Option A'.Answer) (u : List ℕ) → refusal ≡ f
      → WhenRefused (Refusing (shown f m e) (cond (is_none f) u t) (replied f e)) (shown f m e).outcome
  refused_by None m None u h = tt
  refused_by None m (Some a) u h = tt
  refused_by (Some n) m e u h = ((refusal_one (open_at s.jobs) (length store) j t b).found n h, h, refl, refl, refl)

  freed : (m : M.Moved) → m.job ≡ free_job → with_job s j m.job ≡ with_job s j free_job
  freed m h = ap (with_job s j) h

  quiet_by_lem : (f : Option Refusal) (m : M.Moved) (e : Option A'.Answer) (u : List ℕ) → QuitAs (Comes s j store) m.job t u e
      → WhenDone (Quiet (shown f m e) (cond (is_none f) u t) (replied f e)) (shown f m e).outcome
  quiet_by_lem None m None u h = tt
  quiet_by_lem None m (Some (A.Refused n)) u h = h
  quiet_by_lem None m (Some (A.Discarded d)) u h = (h.0, h.1, freed m h.2, h.3, refl)
  quiet_by_lem None m (Some (A.Stale k)) u h = (h.0, freed m h.1, h.2, refl)
  quiet_by_lem None m (Some (A.Nak c k n)) u h = tt
  quiet_by_lem None m (Some (A.Ack i k n)) u h = tt
  quiet_by_lem (Some n) m e u h = tt

  abbrev ending : Option A'.Answer
  ending = (moved_of s j t store).ending

  abbrev after : List ℕ
  after = moved_table (settings_of s) (job_at s.jobs j) (part_of j store) t

  refused_so : WhenRefused (Refusing (step_called s j t b store) (step_table s j t b store) (step_reply s j t b store))
      (step_called s j t b store).outcome
  unfolding step_called step_table step_reply
  refused_so = refused_by refusal (moved_of s j t store) ending after refl

  step-quiet : WhenDone (Quiet (step_called s j t b store) (step_table s j t b store) (step_reply s j t b store))
      (step_called s j t b store).outcome
  unfolding step_called step_table step_reply
  step-quiet = quiet_by_lem refusal (moved_of s j t store) ending after (move_quits (settings_of s) (job_at s.jobs j) (part_of j store) t)

  pub step_refusals : (n : Refusal) → (step_called s j t b store).outcome ≡ O.Refused n
      → Refusing (step_called s j t b store) (step_table s j t b store) (step_reply s j t b store) n
  step_refusals n e =
      subst (WhenRefused (Refusing (step_called s j t b store) (step_table s j t b store) (step_reply s j t b store))) e refused_so

  pub step_answers : (a : A'.Answer) → (step_called s j t b store).outcome ≡ O.Done a
      → Quiet (step_called s j t b store) (step_table s j t b store) (step_reply s j t b store) a
  step_answers a e = subst (WhenDone (Quiet (step_called s j t b store) (step_table s j t b store) (step_reply s j t b store))) e step-quiet

  pub step_refused : (n : Refusal) → refusal ≡ Some n → step_called s j t b store ≡ called s (O.Refused n)
  unfolding step_called
  step_refused n h = rw h

  done_outcome : (m : M.Moved) (e : Option A'.Answer) (a : A'.Answer) → e ≡ Some a → (stepped_as s j m e).outcome ≡ O.Done a
  done_outcome m e a h = ap (λ (x : Option A'.Answer). (stepped_as s j m x).outcome) h

  pub step_comes : (a : A'.Answer) → refusal ≡ None → Comes s j store a → (step_called s j t b store).outcome ≡ O.Done a
  unfolding step_called
  step_comes a z h =
      rw z (done_outcome (moved_of s j t store) ending a (move_ends (settings_of s) (job_at s.jobs j) (part_of j store) t a h))
