-- The job of a request: R5 for a store of another size, then R6 where no job is free; else the lowest free job, which is one of four.
-- Assumes nothing.
use mathlib.Core.Path.{◌≡◌, refl}
use mathlib.Core.Bool.{Bool, true, false, cond}
use Prim.Native.Nat.{ℕ, ◌≤◌, ◌<◌}
use native.Mathlib.Omega.{arith}
use borrow.Author.Tests.{eq-eqb, ne_eqb, ltb-true, ltb-false}
use lib.Dec.{ltb}
use Rattle.std.specs.Prelude.{Option, Some, None, Result, MatchResult}
use Rattle.std.specs.Option.{ok_or}
use Rattle.refusals.specs.declared.Refusal.{Refusal}
use Rattle.refusals.specs.declared.Refusal.TheVariants as R
use Rattle.sched_state.specs.Scheduler.{lowest_free}
use Rattle.sched_state.specs.Refusals.{open_refusal}
use Rattle.sched_rows.specs.Lent.{below_four}
use Rattle.sched_open.specs.Chosen.{Given}

some_below : (b : Bool) (n j : ℕ) → ltb n 4 ≡ b → Some j ≡ cond b (Some n) None → (j ≡ n) × (j < 4)
some_below true n j e h = let is : j ≡ n = cc in let low = ltb-true n 4 e in (is, rw is low)
some_below false n j e h = absurd cc

none_above : (b : Bool) (n : ℕ) → n ≤ 4 → ltb n 4 ≡ b → ◌≡◌ {A = Option ℕ} None (cond b (Some n) None) → n ≡ 4
none_above true n most e h = absurd cc
none_above false n most e h = let high = ltb-false n 4 e in omega arith

most_of : (a b c d : Bool) → cond {A = ℕ} a (cond b (cond c (cond d 4 3) 2) 1) 0 ≤ 4
most_of true true true true = omega arith
most_of true true true false = omega arith
most_of true true false d = omega arith
most_of true false c d = omega arith
most_of false b c d = omega arith

most : (f : ℕ → Bool) → lowest_free f ≤ 4
unfolding lowest_free
most f = most_of (f 0) (f 1) (f 2) (f 3)

module _ (f : ℕ → Bool) (size : ℕ) where
  pub short : (size ≡ 16384 → ⊥) → open_refusal f size ≡ Some R.StoreLength
  unfolding open_refusal
  short odd = rw (ne_eqb _ _ odd)

  module _ (long : size ≡ 16384) where
    pub full : None ≡ below_four (lowest_free f) → open_refusal f size ≡ Some R.NoFreeJob
    unfolding open_refusal
    full e =
        let four = none_above (ltb (lowest_free f) 4) (lowest_free f) (most f) refl e in
        rw (eq-eqb _ _ long, eq-eqb _ _ four)

    pub free : (j : ℕ) → Some j ≡ below_four (lowest_free f) → Given f size j
    unfolding open_refusal
    free j e =
        let is = some_below (ltb (lowest_free f) 4) (lowest_free f) j refl e in
        let not_four : lowest_free f ≡ 4 → ⊥ = λ h. omega (arith, is.0, is.1) in
        record { none = rw (eq-eqb _ _ long, ne_eqb _ _ not_four); long = long; lowest = is.0; below = is.1 }

    pub free_or_full : (x : Option ℕ) (r : Result ℕ Refusal) → r ≡ ok_or x R.NoFreeJob → x ≡ below_four (lowest_free f)
        → MatchResult r (λ j. Given f size j) (λ n. open_refusal f size ≡ Some n)
    free_or_full None r e h = rw e (full h)
    free_or_full (Some j) r e h = rw e (free j h)
