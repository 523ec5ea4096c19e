-- Every call on the scheduler agrees with the serial execution. Opening, a step and a drop have files of their own; a start and an end change the
-- table and send every job past Check back to slot 0, and where they are refused they change nothing.
-- Assumes nothing.
use mathlib.Core.Path.{refl}
use mathlib.Core.Bool.{Bool}
use mathlib.Core.List.{List, []}
use Prim.Native.Nat.{ℕ}
use lib.ListN.{length}
use Rattle.std.specs.Prelude.{Result, Ok, Err}
use Rattle.refusals.specs.declared.Refusal.{Refusal}
use Rattle.table_records.specs.Record.{Session}
use Rattle.table_sessions.specs.Session.{insert_answer, inserted_as, insert_table, remove_answer, removed_as, remove_table}
use Rattle.sched_state.specs.declared.Scheduler as D
use Rattle.sched_state.specs.declared.Outcome.TheVariants as O
use Rattle.sched_state.specs.Scheduler.{settings_of, open_at}
use Rattle.sched_state.specs.Refusals.{drop_refusal}
use Rattle.sched_state.specs.Calls.{drop_called, started_as, start_called, ended_as, end_called}
use Rattle.sched_state.specs.Runs.{Call, Open, Step, Drop, Start, End, World, did, call}
use Rattle.thm_serial.specs.Serial.{Note, serial_did, with_table, serial_drop, start_outcome, end_outcome, serial_call}
use Rattle.thm_serial.specs.Demand3.{finished}
use Rattle.thm_serial.proofs.Invariant.{serial_of, flags, Tied}
use Rattle.thm_serial.proofs.Agreement.{Agree, unchanged, restart-tied}
use Rattle.thm_serial.proofs.OpenAgreement.{open_agrees}
use Rattle.thm_serial.proofs.DropAgreement.{by_drop}
use Rattle.thm_serial.proofs.StepAgreement.{step_agrees}

module _ (s : D.Scheduler) (t store : List ℕ) (ns : List Note) (h : Tied (record { scheduler = s; table = t; store = store }) ns) where
  abbrev before : World
  before = record { scheduler = s; table = t; store = store }

  -- ---- Drop

  drop_agrees : (j : ℕ) (f : Bool) → Agree (length store) (call (Drop j) before) (serial_call (Drop j) f (length store) (serial_of before ns))
  unfolding call serial_call drop_called serial_drop
  drop_agrees j f = rw (← (flags (settings_of s) s.jobs ns store t h.each)) (by_drop s t store ns h (drop_refusal (open_at s.jobs) j) j refl)

  -- ---- Start and End

  by_start : (x : Session) (v : Result ℕ Refusal)
      → Agree (length store) (did (started_as s v) [] (inserted_as x t v) store)
      (serial_did (start_outcome v) [] (with_table (serial_of before ns) (inserted_as x t v)))
  by_start x (Ok k) =
      record { out_is = refl; notes = ns; serial_is = refl; tied = restart-tied s t store ns h (inserted_as x t (Ok k)); size = refl }
  by_start x (Err r) = unchanged s t store ns h (O.Refused r) []

  start_agrees : (x : Session) (f : Bool)
      → Agree (length store) (call (Start x) before) (serial_call (Start x) f (length store) (serial_of before ns))
  unfolding call serial_call start_called insert_table
  start_agrees x f = by_start x (insert_answer x t)

  by_end : (k : ℕ) (v : Result (Unit {0}) Refusal)
      → Agree (length store) (did (ended_as s v) [] (removed_as k t v) store)
      (serial_did (end_outcome v) [] (with_table (serial_of before ns) (removed_as k t v)))
  by_end k (Ok x) = record { out_is = refl; notes = ns; serial_is = refl; tied = restart-tied s t store ns h (removed_as k t (Ok x)); size = refl }
  by_end k (Err r) = unchanged s t store ns h (O.Refused r) []

  end_agrees : (k : ℕ) (f : Bool) → Agree (length store) (call (End k) before) (serial_call (End k) f (length store) (serial_of before ns))
  unfolding call serial_call end_called remove_table
  end_agrees k f = by_end k (remove_answer k t)

-- any call
pub call_agrees : (c : Call) (w : World) (ns : List Note) → Tied w ns
    → Agree (length w.store) (call c w) (serial_call c (finished (call c w).out) (length w.store) (serial_of w ns))
call_agrees (Open p clock) w ns h = open_agrees w.scheduler w.table w.store ns h p clock _
call_agrees (Step j b) w ns h = step_agrees w.scheduler w.table w.store ns h j b
call_agrees (Drop j) w ns h = drop_agrees w.scheduler w.table w.store ns h j _
call_agrees (Start x) w ns h = start_agrees w.scheduler w.table w.store ns h x _
call_agrees (End k) w ns h = end_agrees w.scheduler w.table w.store ns h k _
