-- Check: an answer to the store frees the job, and its reply stands in the buffer; what passed goes on.
-- Assumes nothing.
use mathlib.Core.Path.{◌≡◌, ◌∙◌}
use mathlib.Core.List.{List}
use Prim.Native.Nat.{ℕ}
use lib.IntN.{ℤ}
use Rattle.std.specs.Prelude.{Result, Ok, Err, Some}
use Rattle.refusals.specs.declared.Discard.{Discard}
use Rattle.nas_settings.specs.Settings.{Settings}
use Rattle.das_answer.specs.declared.Answer as D
use Rattle.das_answer.specs.declared.Answer.TheVariants as A
use Rattle.das_judge.specs.Judged.{reply_judged}
use Rattle.sched_reread.specs.Check.{store_judged}
use Rattle.sched_job.specs.declared.Job.{Job}
use Rattle.sched_job.specs.declared.Moved.{Moved}
use Rattle.sched_job.specs.Job.{free_job, at_first_slot}
use Rattle.sched_job.specs.Moves.{going, done, check_move, reply_after}

pub freed : (j : Job) (a : D.Answer) → j ≡ free_job → record { job = j; ending = Some a } ≡ done a
freed j a e = rw e

module _ (g : Settings) (j : Job) (q : List ℕ) (x : Result ℤ D.Answer) (is : x ≡ store_judged g j.words j.length j.clock q) (r : Moved) where
  pub check_ended : (a : D.Answer) → x ≡ Err a → r ≡ done a → r ≡ check_move g j q
  unfolding check_move
  check_ended a i e = e ∙ rw (← is, i)

  pub check_passed : (j' : Job) (k : ℤ) → x ≡ Ok k → j' ≡ at_first_slot j → r ≡ going j' → r ≡ check_move g j q
  unfolding check_move
  check_passed j' k i f e = e ∙ rw (f, ← is, i)

-- ---- the reply buffer

module _ (secret q b : List ℕ) (r : Moved) where
  pub discarded_reply : (d : Discard) → r ≡ done (A.Discarded d) → b ≡ reply_after secret q b r.ending
  discarded_reply d e = rw e

  pub going_reply : (j : Job) → r ≡ going j → b ≡ reply_after secret q b r.ending
  going_reply j e = rw e

  module _ (u : List ℕ) (x : Result ℤ D.Answer) (judged : u ≡ reply_judged secret q b x) where
    pub ended_reply : (a : D.Answer) → x ≡ Err a → r ≡ done a → u ≡ reply_after secret q b r.ending
    ended_reply a i e = judged ∙ rw (i, e)

    pub passed_reply : (j : Job) (k : ℤ) → x ≡ Ok k → r ≡ going j → u ≡ reply_after secret q b r.ending
    passed_reply j k i e = judged ∙ rw (i, e)
