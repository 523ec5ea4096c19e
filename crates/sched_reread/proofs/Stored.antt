-- Check of the store: where it no longer holds the request the answer is D1, else what the verdict comes to.
-- Assumes nothing.
use mathlib.Core.Path.{◌≡◌, ◌∙◌}
use mathlib.Core.Bool.{Bool, true, false}
use mathlib.Core.List.{List}
use Prim.Native.Nat.{ℕ}
use lib.IntN.{ℤ}
use Rattle.std.specs.Prelude.{Result, Err}
use Rattle.refusals.specs.declared.Discard.TheVariants as R
use Rattle.nas_settings.specs.Settings.{Settings}
use Rattle.rule_verdict.specs.Verdict.{check_verdict}
use Rattle.packet_words.specs.Words.{words_signed}
use Rattle.sched_reread.specs.Reread.{holds}
use Rattle.das_answer.specs.declared.Answer.{Answer}
use Rattle.das_answer.specs.declared.Answer.TheVariants as A
use Rattle.das_judge.specs.Judged.{judged_as, reply_judged}
use Rattle.sched_reread.specs.Check.{store_judged}

module _ (g : Settings) (words : List ℕ) (n clock : ℕ) (q : List ℕ) where
  pub store_gone : holds n q ≡ false → Err (A.Discarded R.Length) ≡ store_judged g words n clock q
  unfolding store_judged
  store_gone h = rw h

  pub store_held : holds n q ≡ true → (d : Bool) → d ≡ words_signed words q → (p : List ℕ) → p ≡ q → (r : Result ℤ Answer) → r ≡ judged_as p (check_verdict g d p clock)
      → r ≡ store_judged g words n clock q
  unfolding store_judged
  store_held held d is p same r e = e ∙ rw (same, held, is)

pub store_reply : (secret p q b u : List ℕ) (r : Result ℤ Answer) → p ≡ q → u ≡ reply_judged secret p b r → u ≡ reply_judged secret q b r
store_reply secret p q b u r same e = e ∙ rw same
