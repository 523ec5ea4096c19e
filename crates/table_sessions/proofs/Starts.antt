-- What a start that is not refused says: the texts keep to their limits, the slot is the lowest free one, and it then holds the record, every other slot as it was.
-- Assumes nothing.
use mathlib.Core.Path.{◌≡◌, refl, sym, ◌∙◌}
use mathlib.Core.Bool.{Bool, true, false, not, cond}
use mathlib.Core.List.{List}
use Prim.Native.Nat.{ℕ, ◌+◌, ◌*◌, ◌≤◌}
use native.Mathlib.Nat.{zero-add}
use native.Mathlib.Omega.{arith}
use borrow.Author.Tests.{eqb-false}
use lib.Dec.{eqb}
use lib.ListN.{length}
use Rattle.table_slots.specs.Slot.{slot_count, slot, live}
use Rattle.table_slots.proofs.Places.{slot-written, slot-written_other}
use Rattle.table_records.specs.Record.{Session, record_of, fits_record}
use Rattle.table_records.proofs.Recorded.{recorded_length}
use Rattle.std.specs.Prelude.{Result, Ok, Err}
use Rattle.refusals.specs.declared.Refusal.{Refusal}
use Rattle.refusals.specs.declared.Refusal.TheVariants as R
use Rattle.table_sessions.specs.Session.{id_live, lowest_free, insert_answer, insert_table}
use Rattle.table_sessions.proofs.Free.{free_fits, found_free}

pub record Started (x : Session) (t : List ℕ) (k : ℕ) : Type 0 where
  pub fits : fits_record x ≡ true
  pub new : id_live x.id t (slot_count t) ≡ false
  pub lowest : k ≡ lowest_free t
  pub free : live (slot k t) ≡ false
  pub inside : (k + 1) * 192 ≤ length t

by_tests : (x : Session) (t : List ℕ) (k : ℕ) (none fit known full : Bool) → fits_record x ≡ fit → id_live x.id t (slot_count t) ≡ known → eqb (lowest_free t) (slot_count t) ≡ full
    → ◌≡◌ {A = Result ℕ Refusal} (cond none (Err R.TableLength) (cond (not fit) (Err R.TextLength) (cond known (Err R.SessionIdLive) (cond full (Err R.NoFreeSlot) (Ok (lowest_free t)))))) (Ok k) → Started x t k
by_tests x t k true fit known full a b r e = absurd (let z : ◌≡◌ {A = ℕ} 0 1 = cc in omega arith)
by_tests x t k false false known full a b r e = absurd (let z : ◌≡◌ {A = ℕ} 0 1 = cc in omega arith)
by_tests x t k false true true full a b r e = absurd (let z : ◌≡◌ {A = ℕ} 0 1 = cc in omega arith)
by_tests x t k false true false true a b r e = absurd (let z : ◌≡◌ {A = ℕ} 0 1 = cc in omega arith)
by_tests x t k false true false false a b r e =
    let d : lowest_free t ≡ k = cc in
    record {
      fits = a;
      new = b;
      lowest = sym d;
      free = rw (← d) (found_free t 0 (slot_count t) (λ h. eqb-false _ _ r (rw zero-add at h)));
      inside = free_fits t k (slot_count t) refl (sym d) (λ h. eqb-false _ _ r (d ∙ h));
    }

module _ (x : Session) (t : List ℕ) (k : ℕ) (e : insert_answer x t ≡ Ok k) where
  pub started : Started x t k
  unfolding insert_answer
  started = by_tests x t k (eqb (slot_count t) 0) (fits_record x) (id_live x.id t (slot_count t)) (eqb (lowest_free t) (slot_count t)) refl refl refl e

  pub started_slot : slot k (insert_table x t) ≡ record_of x
  unfolding insert_table
  started_slot = rw e (slot-written t (record_of x) k started.inside (recorded_length x))

  pub started_other : (j : ℕ) → (j ≡ k → ⊥) → slot j (insert_table x t) ≡ slot j t
  unfolding insert_table
  started_other j n = let l : length (record_of x) ≡ 192 = recorded_length x in rw e (slot-written_other t (record_of x) j k n (omega arith))
