-- A drop agrees with the serial execution: it frees the job and strikes its note.
-- Assumes nothing.
use mathlib.Core.Path.{◌≡◌, refl}
use mathlib.Core.List.{List, []}
use Prim.Native.Nat.{ℕ}
use lib.ListN.{length, set, length-set}
use Rattle.std.specs.Prelude.{Option, Some, None}
use Rattle.refusals.specs.declared.Refusal.{Refusal}
use Rattle.sched_job.specs.Job.{free_job}
use Rattle.sched_state.specs.declared.Scheduler as D
use Rattle.sched_state.specs.declared.Outcome.TheVariants as O
use Rattle.sched_state.specs.Scheduler.{open_at, with_job}
use Rattle.sched_state.specs.Refusals.{drop_refusal}
use Rattle.sched_state.specs.Calls.{called, unless_refused}
use Rattle.sched_state.specs.Runs.{World, did}
use Rattle.thm_serial.specs.Serial.{Note, unnoted, serial_did, with_note, serial_unless_refused}
use Rattle.thm_serial.proofs.Invariant.{serial_of, Tied}
use Rattle.thm_serial.proofs.Refusals.{drop_admitted}
use Rattle.thm_serial.proofs.Agreement.{Agree, unchanged, struck}

module _ (s : D.Scheduler) (t store : List ℕ) (ns : List Note) (h : Tied (record { scheduler = s; table = t; store = store }) ns) where
  abbrev before : World
  before = record { scheduler = s; table = t; store = store }

  pub by_drop : (f : Option Refusal) (j : ℕ) → drop_refusal (open_at s.jobs) j ≡ f
      → Agree (length store) (did (unless_refused s f (called (with_job s j free_job) O.Dropped)) [] t store)
      (serial_unless_refused [] (serial_of before ns) f (serial_did O.Dropped [] (with_note (serial_of before ns) j unnoted)))
  by_drop None j e =
      let o = drop_admitted (open_at s.jobs) (length store) j e in
      record {
        out_is = refl;
        notes = set ns j unnoted;
        serial_is = refl;
        tied = record { made = h.made; count = simp length-set h.count; notes = simp length-set h.notes; each = struck s t store ns h j o };
        size = refl;
      }
  by_drop (Some r) j e = unchanged s t store ns h (O.Refused r) []
