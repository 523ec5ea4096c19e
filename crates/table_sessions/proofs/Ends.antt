-- What an end that is not refused says: the slot held a session, its bytes are then zero, and every other slot is as it was.
-- Assumes nothing.
use mathlib.Core.Path.{◌≡◌, refl}
use mathlib.Core.Bool.{Bool, true, false, cond, ◌&&◌}
use mathlib.Core.List.{List}
use Prim.Native.Nat.{ℕ, ◌<◌}
use native.Mathlib.Omega.{arith}
use borrow.Author.Tests.{ltb-true}
use lib.Dec.{eqb, ltb}
use lib.ListN.{replicate, length-replicate}
use Rattle.table_slots.specs.Slot.{slot_count, slot, live}
use Rattle.table_slots.proofs.Count.{slot_fits}
use Rattle.table_slots.proofs.Places.{slot-written, slot-written_other}
use Rattle.std.specs.Prelude.{Result, Ok, Err}
use Rattle.refusals.specs.declared.Refusal.{Refusal}
use Rattle.refusals.specs.declared.Refusal.TheVariants as R
use Rattle.table_sessions.specs.Session.{remove_answer, remove_table}

pub record Ended (k : ℕ) (t : List ℕ) : Type 0 where
  pub inside : k < slot_count t
  pub was : live (slot k t) ≡ true

by_tests : (k : ℕ) (t : List ℕ) (none below lives : Bool) → ltb k (slot_count t) ≡ below → live (slot k t) ≡ lives
    → ◌≡◌ {A = Result (Unit {0}) Refusal} (cond none (Err R.TableLength) (cond (below && lives) (Ok tt) (Err R.NoSuchSession))) (Ok tt) → Ended k t
by_tests k t true below lives h g e = absurd (let z : ◌≡◌ {A = ℕ} 0 1 = cc in omega arith)
by_tests k t false false lives h g e = absurd (let z : ◌≡◌ {A = ℕ} 0 1 = cc in omega arith)
by_tests k t false true false h g e = absurd (let z : ◌≡◌ {A = ℕ} 0 1 = cc in omega arith)
by_tests k t false true true h g e = record { inside = ltb-true _ _ h; was = g }

module _ (k : ℕ) (t : List ℕ) (e : remove_answer k t ≡ Ok tt) where
  pub ended : Ended k t
  unfolding remove_answer
  ended = by_tests k t (eqb (slot_count t) 0) (ltb k (slot_count t)) (live (slot k t)) refl refl e

  pub ended_slot : slot k (remove_table k t) ≡ replicate 192 0
  unfolding remove_table
  ended_slot = rw e (slot-written t (replicate 192 0) k (slot_fits t k ended.inside) (length-replicate {A = ℕ} 192 0))

  pub ended_other : (j : ℕ) → (j ≡ k → ⊥) → slot j (remove_table k t) ≡ slot j t
  unfolding remove_table
  ended_other j n = rw e (slot-written_other t (replicate 192 0) j k n (rw length-replicate (omega arith)))
