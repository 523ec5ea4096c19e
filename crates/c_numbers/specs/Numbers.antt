-- Answers as numbers for C: 0 acknowledged or done; 1 to 99 refused, document 01's R number; 100 + n discarded by Dn; 200 + n failed Vn;
-- 401 to 599 NAK with that Error-Cause. Beside them go numbers which a refusal leaves as they were.
-- Assumes nothing.
use Rattle.std.specs.Prelude.{ℕ, ◌+◌, ◌^◌, ◌<◌, ℤ, pos, Option, Some, None, Result, Ok, Err}
use Rattle.rule_causes.specs.Causes.{error_cause}
use Rattle.das_answer.specs.declared.Answer as D
use Rattle.das_answer.specs.declared.Answer.TheVariants.{Refused, Discarded, Stale, Nak, Ack}
use Rattle.refusals.specs.declared.Refusal.{Refusal}
use Rattle.refusals.specs.Numbers.{refusal_number, discard_number, mismatch_number}
use Rattle.dac_check.specs.declared.Unfit.{Unfit}
use Rattle.dac_check.specs.declared.Unfit.TheVariants as U
use Rattle.c_numbers.specs.declared.numbers.Told.{Told}

abbrev pub told : ℕ → ℕ → ℕ → ℤ → ℕ → Told
told answer changed size skew usable = record { answer = answer; changed = changed; length = size; skew = skew; stamped = usable }

-- an answer alone, all other numbers 0
abbrev pub alone : ℕ → Told
alone answer = told answer 0 0 (pos 0) 0

-- an answer to a request whose stamp is usable
abbrev pub stamped : ℕ → ℕ → ℕ → ℤ → Told
stamped answer changed size skew = told answer changed size skew 1

-- the five answers; a refusal leaves the four numbers beside it as they were
unfoldable pub answer_told : D.Answer → Told → Told
answer_told (Refused r) old = told (refusal_number r) old.changed old.length old.skew old.stamped
answer_told (Discarded d) old = told (100 + discard_number d) 0 0 (pos 0) 0
answer_told (Stale skew) old = stamped 106 0 0 skew
answer_told (Nak c skew n) old = stamped (error_cause c) 0 n skew
answer_told (Ack k skew n) old = stamped 0 k n skew

-- a call that gives no number but this: 0 where nothing refuses it
abbrev pub refused_number : Option Refusal → ℕ
refused_number None = 0
refused_number (Some r) = refusal_number r

-- for inner contracts: the two that are counted fit into 32 bits
pub record Small (n : Told) : Type 0 where
  pub few : n.changed < 2 ^ 32
  pub short : n.length < 2 ^ 32

-- a request written: 0, and its length; or document 01's R number, and the length as it was
unfoldable pub written_number : Result ℕ Refusal → ℕ
written_number (Ok n) = 0
written_number (Err r) = refusal_number r

unfoldable pub written_length : Result ℕ Refusal → ℕ → ℕ
written_length (Ok n) old = n
written_length (Err r) old = old

-- a reply checked: 0 right; 200 + n failed by Vn; else the R number
unfoldable pub checked_number : Result (Unit {0}) Unfit → ℕ
checked_number (Ok u) = 0
checked_number (Err (U.Mismatch v)) = 200 + mismatch_number v
checked_number (Err (U.Refused r)) = refusal_number r
