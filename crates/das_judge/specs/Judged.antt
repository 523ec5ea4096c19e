-- What a verdict comes to before any session is looked at: an answer, or the request passed, with its skew.
-- Assumes nothing.
use Rattle.std.specs.Prelude.{List, ℕ, ℤ, Result, Ok, Err, Some}
use Rattle.rule_verdict.specs.declared.Verdict as R
use Rattle.rule_verdict.specs.declared.Verdict.TheVariants as J
use Rattle.das_reply_parts.specs.Reply.{reply_length}
use Rattle.das_answer.specs.declared.Answer.{Answer}
use Rattle.das_answer.specs.declared.Answer.TheVariants as A
use Rattle.das_answer.specs.Replies.{reply_as}

abbrev pub judged_as : List ℕ → R.Verdict → Result ℤ Answer
judged_as p (J.Discarded d) = Err (A.Discarded d)
judged_as p (J.Stale skew) = Err (A.Stale skew)
judged_as p (J.Nak c skew) = Err (A.Nak c skew (reply_length p (Some c)))
judged_as p (J.Passed skew) = Ok skew

-- the reply buffer b after it: only a NAK writes it
abbrev pub reply_judged : List ℕ → List ℕ → List ℕ → Result ℤ Answer → List ℕ
reply_judged secret p b (Err a) = reply_as secret p b a
reply_judged secret p b (Ok skew) = b
