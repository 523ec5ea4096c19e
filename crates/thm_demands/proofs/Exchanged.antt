-- Demand 1 of the writer and the reply check: the answer is the first refusal that applies, and only where none does is anything written. So the
-- output after a refusal is the one handed in.
-- Assumes nothing.
use mathlib.Core.Path.{◌≡◌, refl, subst}
use mathlib.Core.Bool.{Bool, true, false, cond, not, ◌||◌}
use mathlib.Core.List.{List, [], ◌∷◌}
use Prim.Native.Nat.{ℕ}
use lib.Dec.{eqb, ltb}
use lib.ListN.{length}
use Rattle.std.specs.Prelude.{Option, Some, None, Result, Err}
use Rattle.octet_numbers.specs.Runs.{write, member}
use Rattle.refusals.specs.declared.Refusal.{Refusal}
use Rattle.refusals.specs.declared.Refusal.TheVariants as R
use Rattle.refusals.specs.declared.Mismatch.{Mismatch}
use Rattle.refusals.specs.Numbers.{refusal_number}
use Rattle.nas_settings.specs.Settings.{bad_secret}
use Rattle.dac_check.specs.declared.Unfit.{Unfit}
use Rattle.dac_check.specs.declared.Unfit.TheVariants as U
use Rattle.dac_write.specs.Writer.{Draft, bad_given, write_refusal, request_length, request_of, answer_by, output_by, write_answer, write_output}
use Rattle.dac_check.specs.ReplyCheck.{failure_of, fit_by, check_answer}
use Rattle.thm_demands.specs.Demand1.{Exchanging}
use Rattle.thm_demands.proofs.Cascades.{OneOf, none_of, one_more}

-- ---- the writer

module _ (secret out : List ℕ) (d : Draft) where
  refusal_one : OneOf refusal_number (2 ∷ 4 ∷ 12 ∷ 13 ∷ []) (write_refusal secret out d)
  unfolding write_refusal
  refusal_one =
      one_more refusal_number (bad_secret secret) R.SecretLength _ _
      (one_more refusal_number (ltb (length out) 4096) R.OutputRoom _ _
      (one_more refusal_number (not (eqb d.code 40 || eqb d.code 43)) R.RequestCode _ _
      (one_more refusal_number (bad_given d) R.GivenAttributes _ _ (none_of refusal_number))))

  by_answer : (x : Option Refusal) (n : Refusal) (written : List ℕ) → OneOf refusal_number (2 ∷ 4 ∷ 12 ∷ 13 ∷ []) x
      → answer_by x (request_length d) ≡ Err n
      → (member (refusal_number n) (2 ∷ 4 ∷ 12 ∷ 13 ∷ []) ≡ true) × (x ≡ Some n) × (output_by x out written ≡ out)
  by_answer None n written one e = cc
  by_answer (Some r) n written one e = let same : Some r ≡ Some n = cc in (one.found n same, same, refl)

  write_refusals : (n : Refusal) → write_answer secret out d ≡ Err n
      → (member (refusal_number n) (2 ∷ 4 ∷ 12 ∷ 13 ∷ []) ≡ true) × (write_refusal secret out d ≡ Some n) × (write_output secret out d ≡ out)
  unfolding write_answer write_output
  write_refusals n = by_answer (write_refusal secret out d) n (write out 0 (request_of secret d)) refusal_one

  write_refused : (n : Refusal) → write_refusal secret out d ≡ Some n → write_answer secret out d ≡ Err n
  unfolding write_answer
  write_refused n h = rw h

-- ---- the reply check

by_fit : (x : Option Mismatch) (n : Refusal) → fit_by x ≡ Err (U.Refused n) → ⊥
by_fit None n e = cc
by_fit (Some v) n e = cc

check_by : (b : Bool) (x : Option Mismatch) (n : Refusal)
    → ◌≡◌ {A = Result (Unit {0}) Unfit} (cond b (Err (U.Refused R.SecretLength)) (fit_by x)) (Err (U.Refused n))
    → (n ≡ R.SecretLength) × (refusal_number n ≡ 2) × (b ≡ true)
check_by true x n e = let same : R.SecretLength ≡ n = cc in (cc, subst (λ (y : Refusal). refusal_number y ≡ 2) same refl, refl)
check_by false x n e = absurd (by_fit x n e)

check_refusals : (secret q r : List ℕ) (n : Refusal) → check_answer secret q r ≡ Err (U.Refused n)
    → (n ≡ R.SecretLength) × (refusal_number n ≡ 2) × (bad_secret secret ≡ true)
unfolding check_answer
check_refusals secret q r n = check_by (bad_secret secret) (failure_of secret q r) n

check_refused : (secret q r : List ℕ) → bad_secret secret ≡ true → check_answer secret q r ≡ Err (U.Refused R.SecretLength)
unfolding check_answer
check_refused secret q r h = rw h

pub exchanging : (secret out : List ℕ) (d : Draft) (q r : List ℕ) → Exchanging secret out d q r
exchanging secret out d q r =
    record {
      write_refused = write_refused secret out d;
      write_refusals = write_refusals secret out d;
      check_refused = check_refused secret q r;
      check_refusals = check_refusals secret q r;
    }
