-- Opening agrees with the serial execution: it is refused, discarded, or the job is opened as OpenedJob has it.
-- Assumes nothing.
use mathlib.Core.Path.{◌≡◌, refl}
use mathlib.Core.Bool.{Bool, cond}
use mathlib.Core.List.{List, []}
use Prim.Native.Nat.{ℕ}
use lib.ListN.{length}
use Rattle.std.specs.Prelude.{Option, Some, None, is_none}
use Rattle.refusals.specs.declared.Refusal.{Refusal}
use Rattle.refusals.specs.declared.Discard.{Discard}
use Rattle.packet_form.specs.Discards.{form_of}
use Rattle.sched_state.specs.declared.Scheduler as D
use Rattle.sched_state.specs.declared.Outcome.TheVariants as O
use Rattle.sched_state.specs.Scheduler.{settings_of, open_at, lowest_free}
use Rattle.sched_state.specs.Refusals.{open_refusal}
use Rattle.sched_state.specs.Calls.{unless_refused, opened_as, open_called, open_store}
use Rattle.sched_state.specs.Runs.{Open, World, did, call}
use Rattle.thm_serial.specs.Serial.{Note, serial_unless_refused, serial_opened_as, serial_open, serial_call}
use Rattle.thm_serial.proofs.Invariant.{serial_of, flags, Tied}
use Rattle.thm_serial.proofs.Refusals.{open_admitted}
use Rattle.thm_serial.proofs.Agreement.{Agree, unchanged}
use Rattle.thm_serial.proofs.OpenedJob.{room, opened}

module _ (s : D.Scheduler) (t store : List ℕ) (ns : List Note) (h : Tied (record { scheduler = s; table = t; store = store }) ns) (p : List ℕ)
    (clock : ℕ) where
  abbrev before : World
  before = record { scheduler = s; table = t; store = store }

  abbrev placed : List ℕ → ℕ → List ℕ
  placed = room s t store ns h p clock

  abbrev free : ℕ
  free = lowest_free (open_at s.jobs)

  abbrev refusal : Option Refusal
  refusal = open_refusal (open_at s.jobs) (length store)

  by_open : (f : Option Refusal) (d : Option Discard) → refusal ≡ f → form_of p ≡ d
      → Agree (length store)
      (did (unless_refused s f (opened_as s p clock d)) [] t (cond (is_none f) (cond (is_none d) (placed store free) store) store))
      (serial_unless_refused [] (serial_of before ns) f (serial_opened_as p clock free (serial_of before ns) d))
  by_open None None e i = let a = open_admitted (open_at s.jobs) (length store) e in opened s t store ns h p clock free i a.1 a.0
  by_open None (Some d) e i = unchanged s t store ns h (O.Discarded d) []
  by_open (Some r) d e i = unchanged s t store ns h (O.Refused r) []

  pub open_agrees : (f : Bool)
      → Agree (length store) (call (Open p clock) before) (serial_call (Open p clock) f (length store) (serial_of before ns))
  unfolding call serial_call open_called open_store serial_open
  open_agrees f = rw (← (flags (settings_of s) s.jobs ns store t h.each)) (by_open refusal (form_of p) refl refl)
