-- Demand 1 of the calls on a scheduler: each tests its refusals first and gives the first that applies, with all that was lent as it came. Here
-- making and a drop; an opening, a step, and a session's start and end have files of their own.
-- Assumes nothing.
use mathlib.Core.Path.{◌≡◌, refl, subst}
use mathlib.Core.Bool.{Bool, true, false, cond, not, ◌||◌}
use mathlib.Core.List.{List, [], ◌∷◌}
use Prim.Native.Nat.{ℕ}
use lib.Dec.{ltb}
use Rattle.std.specs.Prelude.{Option, Some, None}
use Rattle.octet_numbers.specs.Runs.{member}
use Rattle.refusals.specs.declared.Refusal.{Refusal}
use Rattle.refusals.specs.declared.Refusal.TheVariants as R
use Rattle.refusals.specs.Numbers.{refusal_number}
use Rattle.nas_settings.specs.Settings.{Settings, bad_secret, bad_nas_id}
use Rattle.sched_state.specs.declared.Scheduler as D
use Rattle.sched_state.specs.declared.Called as C
use Rattle.sched_state.specs.declared.Outcome.TheVariants as O
use Rattle.sched_state.specs.Scheduler.{open_at, with_job}
use Rattle.sched_state.specs.Refusals.{make_refusal, drop_refusal}
use Rattle.sched_state.specs.Calls.{called, unless_refused, drop_called}
use Rattle.das_answer.specs.declared.Answer.TheVariants as A
use Rattle.sched_job.specs.Job.{free_job}
use Rattle.thm_demands.specs.Demand1.{Scheduling}
use Rattle.thm_demands.proofs.Cascades.{OneOf, none_of, one_more}
use Rattle.thm_demands.proofs.AnswerKinds.{WhenRefused}
use Rattle.thm_demands.proofs.Stepped.{step_refused, step_refusals, step_comes, step_answers}
use Rattle.thm_demands.proofs.Started.{start_refused, start_refusals, end_refused, end_refusals}
use Rattle.thm_demands.proofs.Opened.{open_refused, open_refusals, open_discarded, open_discards}

-- ---- making

make_one : (g : Settings) → OneOf refusal_number (2 ∷ 3 ∷ []) (make_refusal g)
unfolding make_refusal
make_one g =
    one_more refusal_number (bad_secret g.secret) R.SecretLength _ _
    (one_more refusal_number (bad_nas_id g.nas_id) R.NasIdentifierLength _ _ (none_of refusal_number))

make_refusals : (g : Settings) (n : Refusal) → make_refusal g ≡ Some n → member (refusal_number n) (2 ∷ 3 ∷ []) ≡ true
make_refusals g n e = (make_one g).found n e

-- ---- dropping

-- r is the refusal, c the call's result
abbrev Undropped : D.Scheduler → Option Refusal → C.Called → Refusal → Type 0
Undropped s r c n = (n ≡ R.NoSuchJob) × (refusal_number n ≡ 7) × (r ≡ Some n) × (c.scheduler ≡ s)

abbrev refusal_by : Bool → Option Refusal
refusal_by x = cond x (Some R.NoSuchJob) None

abbrev dropped : D.Scheduler → ℕ → Option Refusal → C.Called
dropped s j r = unless_refused s r (called (with_job s j free_job) O.Dropped)

drop_by : (s : D.Scheduler) (j : ℕ) (x : Bool)
    → WhenRefused (Undropped s (refusal_by x) (dropped s j (refusal_by x))) (dropped s j (refusal_by x)).outcome
drop_by s j true = (refl, refl, refl, refl)
drop_by s j false = tt

drop_so : (s : D.Scheduler) (j : ℕ) → WhenRefused (Undropped s (drop_refusal (open_at s.jobs) j) (drop_called s j)) (drop_called s j).outcome
unfolding drop_called drop_refusal
drop_so s j = drop_by s j (ltb 3 j || not (open_at s.jobs j))

drop_refused : (s : D.Scheduler) (j : ℕ) (n : Refusal) → drop_refusal (open_at s.jobs) j ≡ Some n → drop_called s j ≡ called s (O.Refused n)
unfolding drop_called
drop_refused s j n h = rw h

pub scheduling : (s : D.Scheduler) (t b store : List ℕ) → Scheduling s t b store
scheduling s t b store =
    record {
      make_refusals = make_refusals;
      open_refused = λ p clock n h. open_refused s p store clock n h;
      open_refusals = λ p clock n e. open_refusals s p store clock n e;
      open_discarded = λ p clock z d h. open_discarded s p store clock z d h;
      open_discards = λ p clock d e. open_discards s p store clock d e;
      step_refused = λ j n h. step_refused s t b store j n h;
      step_refusals = λ j n e. step_refusals s t b store j n e;
      step_admitted = λ j n e. step_answers s t b store j (A.Refused n) e;
      step_discarded = λ j a z h. step_comes s t b store j a z h;
      step_discards = λ j d e. step_answers s t b store j (A.Discarded d) e;
      step_stale = λ j k e. step_answers s t b store j (A.Stale k) e;
      drop_refused = drop_refused s;
      drop_refusals = λ j n e. subst (WhenRefused (Undropped s (drop_refusal (open_at s.jobs) j) (drop_called s j))) e (drop_so s j);
      start_refused = λ x n e. start_refused s x t n e;
      start_refusals = λ x n e. start_refusals s x t n e;
      end_refused = λ k n e. end_refused s k t n e;
      end_refusals = λ k n e. end_refusals s k t n e;
    }
