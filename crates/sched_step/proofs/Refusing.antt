-- What a step that is not refused has: a reply buffer and a store of their size, and one of the four jobs.
-- Assumes nothing.
use mathlib.Core.Path.{◌≡◌, refl}
use mathlib.Core.Bool.{Bool, true, false, cond, not, ◌||◌}
use mathlib.Core.List.{List}
use Prim.Native.Nat.{ℕ, ◌≤◌, ◌<◌}
use native.Mathlib.Omega.{arith}
use borrow.Author.Tests.{ltb-false, eqb-true}
use lib.Dec.{eqb, ltb}
use lib.ListN.{length}
use Rattle.std.specs.Prelude.{Some, None}
use Rattle.std.proofs.lemmas.Option.{none-some}
use Rattle.refusals.specs.declared.Refusal.{Refusal}
use Rattle.refusals.specs.declared.Refusal.TheVariants as R
use Rattle.table_slots.specs.Slot.{slot_count}
use Rattle.sched_job.specs.declared.Job.{Job}
use Rattle.sched_state.specs.Scheduler.{open_at}
use Rattle.sched_state.specs.Refusals.{step_refusal, drop_refusal}

none_of : (x y z u v : Bool) (a b c d : Refusal) → None ≡ cond x (Some a) (cond y (Some b) (cond (not z) (Some c) (cond (u || not v) (Some d) None)))
    → (y ≡ false) × (z ≡ true) × (u ≡ false)
none_of true y z u v a b c d e = absurd (none-some a e)
none_of false true z u v a b c d e = absurd (none-some b e)
none_of false false false u v a b c d e = absurd (none-some c e)
none_of false false true true v a b c d e = absurd (none-some d e)
none_of false false true false v a b c d e = (refl, refl, refl)

module _ (js : List Job) (j : ℕ) (t b store : List ℕ) (none : None ≡ step_refusal (open_at js) (length store) j t b) where
  tests : (ltb (length b) 4096 ≡ false) × (eqb (length store) 16384 ≡ true) × (ltb 3 j ≡ false)
  unfolding step_refusal drop_refusal
  tests =
      none_of (eqb (slot_count t) 0) (ltb (length b) 4096) (eqb (length store) 16384) (ltb 3 j) (open_at js j)
      R.TableLength R.OutputRoom R.StoreLength R.NoSuchJob none

  pub goes_room : 4096 ≤ length b
  goes_room = ltb-false _ _ tests.0

  pub goes_long : length store ≡ 16384
  goes_long = eqb-true _ _ tests.1

  pub goes_below : j < 4
  goes_below = let h : j ≤ 3 = ltb-false 3 j tests.2 in omega arith
