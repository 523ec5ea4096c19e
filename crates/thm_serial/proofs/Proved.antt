-- Demand 3, proved: the scheduler and the serial execution agree on every list of calls, and as at most 912 steps can be left, the 912th finishes
-- the last open request.
-- Assumes nothing.
use mathlib.Core.Path.{◌≡◌, sym, ap, ◌∙◌}
use mathlib.Core.Bool.{Bool, true, false}
use mathlib.Core.List.{List, ◌++◌}
use Prim.Native.Nat.{ℕ, ◌≤◌}
use native.Mathlib.Omega.{arith}
use Rattle.std.specs.Prelude.{None}
use Rattle.nas_settings.specs.Settings.{Settings}
use Rattle.sched_state.specs.declared.Scheduler as D
use Rattle.sched_state.specs.Scheduler.{settings_of, open_at}
use Rattle.sched_state.specs.Refusals.{make_refusal}
use Rattle.sched_state.specs.Making.{made_of}
use Rattle.sched_state.specs.Runs.{Call, World, run}
use Rattle.sched_state.proofs.New.{made_jobs, made_settings, made_ours}
use Rattle.thm_serial.specs.Serial.{Serial, noted_at}
use Rattle.thm_serial.specs.Demand3.{quiet, steps_taken, world, serially, New, Demand3}
use Rattle.thm_serial.proofs.Potential.{potential_most, all_finished}
use Rattle.thm_serial.proofs.Whole.{whole, run-after, notes_open}
use Rattle.thm_serial.proofs.StepBound.{run_spent}

module _ (s : D.Scheduler) (new : New s) (cs ds : List Call) (t store : List ℕ) where
  abbrev between : World
  between = (run cs (world s t store)).world

  finishes : quiet (run ds between).outs ≡ true → 912 ≤ steps_taken (run ds between).outs → (j : ℕ)
      → open_at (run ds between).world.scheduler.jobs j ≡ false
  finishes q h =
      let r = whole s new cs t store in
      all_finished (run ds between).world.scheduler.jobs
      (omega (arith, run_spent ds between r.notes r.tied q, potential_most between.scheduler.jobs r.tied.count))

  none_noted : quiet (run ds between).outs ≡ true → 912 ≤ steps_taken (run ds between).outs → (j : ℕ)
      → noted_at (serially (cs ++ ds) s t store).serial.notes j ≡ false
  none_noted q h j =
      let o = notes_open (run (cs ++ ds) (world s t store)) (serially (cs ++ ds) s t store) (whole s new (cs ++ ds) t store) in
      ap (λ (f : ℕ → Bool). f j) (sym o) ∙ rw (run-after cs ds (world s t store)) (finishes q h j)

made : (g : Settings) → make_refusal g ≡ None → New (made_of g) × (settings_of (made_of g) ≡ g)
made g h = (record { ours = made_ours g h; free = made_jobs g }, made_settings g h)

pub demand3 : Demand3
demand3 =
    record {
      made = made;
      answers = λ s new cs t store. (whole s new cs t store).outs_are;
      table = λ s new cs t store. ap (λ (x : Serial). x.table) (sym (whole s new cs t store).serial_is);
      ends = finishes;
      no_notes = none_noted;
    }
