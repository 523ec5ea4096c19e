-- Check of a job's part of the store: the store read again, D4 by the words as held, D5, D6 and causes 1 to 6. It knows no job.
-- Assumes nothing.
use Rattle.std.specs.Prelude.{cond, List, ℕ, ℤ, Result, Err}
use Rattle.refusals.specs.declared.Discard.TheVariants as R
use Rattle.nas_settings.specs.Settings.{Settings}
use Rattle.rule_verdict.specs.Verdict.{check_verdict}
use Rattle.packet_words.specs.Words.{words_signed}
use Rattle.sched_reread.specs.Reread.{holds}
use Rattle.das_answer.specs.declared.Answer.{Answer}
use Rattle.das_answer.specs.declared.Answer.TheVariants as A
use Rattle.das_judge.specs.Judged.{judged_as}

-- by the words, the Length n and the clock as kept; where the store q no longer holds the request, D1
unfoldable pub store_judged : Settings → List ℕ → ℕ → ℕ → List ℕ → Result ℤ Answer
store_judged g words n clock q =
    cond (holds n q) (judged_as q (check_verdict g (words_signed words q) q clock)) (Err (A.Discarded R.Length))
