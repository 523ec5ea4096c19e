-- What the calls on a scheduler refuse (document 01, "Refusal numbers"): the lowest number that applies.
-- `is_open` tells which job numbers are open, `size` the store's length. The serial execution refuses by the same definitions.
-- Assumes nothing.
use Rattle.std.specs.Prelude.{Bool, cond, not, ◌||◌, List, ℕ, eqb, ltb, length, Option, Some, None}
use Rattle.refusals.specs.declared.Refusal.{Refusal}
use Rattle.refusals.specs.declared.Refusal.TheVariants as R
use Rattle.table_slots.specs.Slot.{slot_count}
use Rattle.nas_settings.specs.Settings.{Settings, bad_secret, bad_nas_id}
use Rattle.sched_state.specs.Scheduler.{lowest_free}

-- making: R2, R3
unfoldable pub make_refusal : Settings → Option Refusal
make_refusal g = cond (bad_secret g.secret) (Some R.SecretLength) (cond (bad_nas_id g.nas_id) (Some R.NasIdentifierLength) None)

-- opening: R5 packet store not 16,384 bytes, R6 no free job
unfoldable pub open_refusal : (ℕ → Bool) → ℕ → Option Refusal
open_refusal is_open size = cond (not (eqb size 16384)) (Some R.StoreLength) (cond (eqb (lowest_free is_open) 4) (Some R.NoFreeJob) None)

-- a drop: R7 job number above 3 or free
unfoldable pub drop_refusal : (ℕ → Bool) → ℕ → Option Refusal
drop_refusal is_open j = cond (ltb 3 j || not (is_open j)) (Some R.NoSuchJob) None

-- a step: R1 table, R4 reply buffer, R5 store, then as a drop
unfoldable pub step_refusal : (ℕ → Bool) → ℕ → ℕ → List ℕ → List ℕ → Option Refusal
step_refusal is_open size j t b =
    cond (eqb (slot_count t) 0) (Some R.TableLength)
    (cond (ltb (length b) 4096) (Some R.OutputRoom)
    (cond (not (eqb size 16384)) (Some R.StoreLength)
    (drop_refusal is_open j)))
