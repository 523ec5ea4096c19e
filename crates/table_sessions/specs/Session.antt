-- Where a new session goes, what can refuse it, and a session's end (document 01, R1 and R8 to R11).
-- Assumes nothing.
use Rattle.std.specs.Prelude.{Bool, false, ◌&&◌, ◌||◌, not, cond, List, ℕ, zero, suc, ◌*◌, eqb, ltb, replicate, Option, None, Some, Result, Ok, Err}
use Rattle.octet_numbers.specs.Runs.{write, equal_bytes}
use Rattle.table_slots.specs.Slot.{slot_count, slot, live, session_id}
use Rattle.table_records.specs.Record.{Session, record_of, fits_record}
use Rattle.refusals.specs.declared.Refusal.{Refusal}
use Rattle.refusals.specs.declared.Refusal.TheVariants as R

-- R9: one of the first k slots is live with this Acct-Session-Id
unfoldable pub id_live : List ℕ → List ℕ → ℕ → Bool
id_live id t zero = false
id_live id t (suc k) = id_live id t k || (live (slot k t) && equal_bytes id (session_id (slot k t)))

-- the lowest free slot from k on, of n slots; k + n where all are live (R10)
unfoldable pub free_from : List ℕ → ℕ → ℕ → ℕ
free_from t k zero = k
free_from t k (suc n) = cond (live (slot k t)) (free_from t (suc k) n) k

abbrev pub lowest_free : List ℕ → ℕ
lowest_free t = free_from t 0 (slot_count t)

-- the lowest free one of n slots
abbrev pub free_slot : List ℕ → ℕ → Option ℕ
free_slot t n = cond (eqb (free_from t 0 n) n) None (Some (free_from t 0 n))

-- R1, R8, R9, R10, the first that applies, else the slot
unfoldable pub insert_answer : Session → List ℕ → Result ℕ Refusal
insert_answer x t =
    cond (eqb (slot_count t) 0) (Err R.TableLength)
    (cond (not (fits_record x)) (Err R.TextLength)
    (cond (id_live x.id t (slot_count t)) (Err R.SessionIdLive)
    (cond (eqb (lowest_free t) (slot_count t)) (Err R.NoFreeSlot)
    (Ok (lowest_free t)))))

-- the table after it
abbrev pub inserted_as : Session → List ℕ → Result ℕ Refusal → List ℕ
inserted_as x t (Ok k) = write t (k * 192) (record_of x)
inserted_as x t (Err r) = t

unfoldable pub insert_table : Session → List ℕ → List ℕ
insert_table x t = inserted_as x t (insert_answer x t)

-- R1, R11, else the session of slot k is gone
unfoldable pub remove_answer : ℕ → List ℕ → Result (Unit {0}) Refusal
remove_answer k t =
    cond (eqb (slot_count t) 0) (Err R.TableLength)
    (cond (ltb k (slot_count t) && live (slot k t)) (Ok tt)
    (Err R.NoSuchSession))

abbrev pub removed_as : ℕ → List ℕ → Result (Unit {0}) Refusal → List ℕ
removed_as k t (Ok done) = write t (k * 192) (replicate 192 0)
removed_as k t (Err r) = t

unfoldable pub remove_table : ℕ → List ℕ → List ℕ
remove_table k t = removed_as k t (remove_answer k t)
