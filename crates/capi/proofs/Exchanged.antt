-- The length of a written request fits C's number: a request is at most 4,096 bytes long.
-- Assumes nothing.
use mathlib.Core.Path.{◌≡◌, refl}
use mathlib.Core.List.{List}
use Prim.Native.Nat.{ℕ, ◌<◌}
use native.Mathlib.Omega.{arith}
use Rattle.std.specs.Prelude.{Option, Some, None, Result}
use Rattle.refusals.specs.declared.Refusal.{Refusal}
use Rattle.dac_write.specs.Writer.{Draft, write_refusal, request_length, answer_by, write_answer}
use Rattle.thm_exchange.proofs.Requests.{written_short}
use Rattle.c_numbers.specs.Numbers.{written_length}

by_refusal : (x : Option Refusal) (n : ℕ) → (x ≡ None → n < 4294967296) → written_length (answer_by x n) 0 < 4294967296
unfolding written_length
by_refusal None n h = h refl
by_refusal (Some r) n h = omega arith

pub written_fits : (secret out : List ℕ) (d : Draft) (w : Result ℕ Refusal) → w ≡ write_answer secret out d → written_length w 0 < 4294967296
unfolding write_answer
written_fits secret out d w is = rw is (by_refusal (write_refusal secret out d) (request_length d) (λ h. omega (arith, written_short secret out d h)))
