-- What a request that is not refused has: none of R2, R4, R12 and R13 applies to it.
-- Assumes nothing.
use mathlib.Core.Path.{◌≡◌, refl, sym}
use mathlib.Core.Bool.{Bool, true, false, cond, not, ◌||◌, false≢true}
use mathlib.Core.List.{List}
use Prim.Native.Nat.{ℕ, ◌^◌, ◌≤◌, ◌<◌}
use native.Mathlib.Omega.{arith}
use borrow.Author.Tests.{ltb-false, eqb-true}
use lib.Dec.{eqb, ltb}
use lib.ListN.{length}
use Rattle.std.specs.Prelude.{Some, None}
use Rattle.refusals.specs.declared.Refusal.TheVariants as R
use Rattle.nas_settings.specs.Settings.{bad_secret}
use Rattle.dac_write.specs.Writer.{Draft, bad_given, write_refusal}

pub record Taken (secret out : List ℕ) (d : Draft) : Type 0 where
  pub room : 4096 ≤ length out
  pub code : (eqb d.code 40 || eqb d.code 43) ≡ true
  pub given : bad_given d ≡ false

taken_case : (secret out : List ℕ) (d : Draft) (a b c e : Bool) → ltb (length out) 4096 ≡ b → (eqb d.code 40 || eqb d.code 43) ≡ c → bad_given d ≡ e
    → None ≡ cond a (Some R.SecretLength) (cond b (Some R.OutputRoom) (cond (not c) (Some R.RequestCode) (cond e (Some R.GivenAttributes) None)))
    → Taken secret out d
taken_case secret out d false false true false eb ec ee h = record { room = ltb-false _ _ eb; code = ec; given = ee }
taken_case secret out d true b c e eb ec ee h = cc
taken_case secret out d false true c e eb ec ee h = cc
taken_case secret out d false false false e eb ec ee h = cc
taken_case secret out d false false true true eb ec ee h = cc

pub taken : (secret out : List ℕ) (d : Draft) → write_refusal secret out d ≡ None → Taken secret out d
unfolding write_refusal
taken secret out d h = taken_case secret out d (bad_secret secret) _ _ _ refl refl refl (sym h)

code_case : (k : ℕ) (a b : Bool) → eqb k 40 ≡ a → eqb k 43 ≡ b → (a || b) ≡ true → k < 64
code_case k true b ea eb h = omega (arith, eqb-true k 40 ea)
code_case k false true ea eb h = omega (arith, eqb-true k 43 eb)
code_case k false false ea eb h = absurd (false≢true h)

pub code_byte : (secret out : List ℕ) (d : Draft) → write_refusal secret out d ≡ None → d.code < 2 ^ 8
code_byte secret out d h = let e = code_case d.code _ _ refl refl (taken secret out d h).code in omega arith
