-- Every list of calls on a newly made scheduler agrees with the serial execution: the invariant between them holds of a new scheduler and no notes,
-- and each call keeps it.
-- Assumes nothing.
use mathlib.Core.Path.{◌≡◌, refl, sym, ap, ◌∙◌}
use mathlib.Core.Bool.{false}
use mathlib.Core.List.{List, [], ◌∷◌, ◌++◌, map}
use Prim.Native.Nat.{ℕ, zero, suc}
use native.Mathlib.Omega.{arith}
use borrow.Author.Tests.{ne_eqb, le-ltb}
use lib.ListN.{length, take, get_or, replicate}
use lib.Seq.{length-take-le}
use Rattle.nas_settings.specs.Settings.{bad_secret, bad_nas_id}
use Rattle.sched_job.specs.Job.{free_job, is_open}
use Rattle.sched_state.specs.declared.Scheduler as D
use Rattle.sched_state.specs.Scheduler.{settings_of, job_at, open_at, Ours}
use Rattle.sched_state.specs.Runs.{Call, World, Ran, call, run}
use Rattle.thm_serial.specs.Serial.{Note, unnoted, Serial, SerialRan, noted_at, serial_call, serial_run}
use Rattle.thm_serial.specs.Demand3.{finished, world, serially, New}
use Rattle.thm_serial.proofs.Invariant.{Made, serial_of, flags, Tied}
use Rattle.thm_serial.proofs.Agreement.{Agree}
use Rattle.thm_serial.proofs.CallAgreement.{call_agrees}

pub record Same (d : Ran) (k : SerialRan) : Type 0 where
  pub outs_are : d.outs ≡ k.outs
  pub notes : List Note
  pub serial_is : k.serial ≡ serial_of d.world notes
  pub tied : Tied d.world notes

pub runs : (cs : List Call) (n : ℕ) (w : World) (ns : List Note) → length w.store ≡ n → Tied w ns
    → Same (run cs w) (serial_run cs (map finished (run cs w).outs) n (serial_of w ns))
unfolding run serial_run
runs [] n w ns z h = record { outs_are = refl; notes = ns; serial_is = refl; tied = h }
runs (c ∷ cs) n w ns z h =
    let a : Agree n (call c w) (serial_call c (finished (call c w).out) n (serial_of w ns)) = rw z at (call_agrees c w ns h) in
    let r = runs cs n (call c w).world a.notes a.size a.tied in
    rw (← a.out_is, a.serial_is) record { outs_are = ap (◌∷◌ (call c w).out) r.outs_are; notes = r.notes; serial_is = r.serial_is; tied = r.tied }

-- a list of calls after another
pub run-after : (cs ds : List Call) (w : World) → (run (cs ++ ds) w).world ≡ (run ds (run cs w).world).world
unfolding run
run-after [] ds w = refl
run-after (c ∷ cs) ds w = run-after cs ds (call c w).world

-- ---- a newly made scheduler

made : (s : D.Scheduler) → Ours s → Made (settings_of s)
unfolding bad_secret bad_nas_id
made s o =
    let k : length (take s.secret_size s.secret) ≡ s.secret_size =
    length-take-le s.secret_size s.secret (omega (arith, o.secret_high, o.secret_room)) in
    let n : length (take s.nas_id_size s.nas_id) ≡ s.nas_id_size = length-take-le s.nas_id_size s.nas_id (omega (arith, o.name_high, o.name_room)) in
    record {
      secret_good = rw (k, ne_eqb s.secret_size 0 (λ e. omega (arith, o.secret_low)), le-ltb 64 s.secret_size o.secret_high);
      name_good = rw (n, ne_eqb s.nas_id_size 0 (λ e. omega (arith, o.name_low)), le-ltb 32 s.nas_id_size o.name_high);
      short = rw k o.secret_high;
    }

free_each : (i : ℕ) → is_open (job_at (replicate 4 free_job) i).stage ≡ false
free_each zero = refl
free_each (suc zero) = refl
free_each (suc (suc zero)) = refl
free_each (suc (suc (suc zero))) = refl
free_each (suc (suc (suc (suc i)))) = refl

each_unnoted : (i : ℕ) → get_or (replicate 4 unnoted) i unnoted ≡ unnoted
each_unnoted zero = refl
each_unnoted (suc zero) = refl
each_unnoted (suc (suc zero)) = refl
each_unnoted (suc (suc (suc zero))) = refl
each_unnoted (suc (suc (suc (suc i)))) = refl

new_tied : (s : D.Scheduler) → New s → (t store : List ℕ) → Tied (world s t store) (replicate 4 unnoted)
new_tied s n t store =
    record {
      made = made s n.ours;
      count = n.ours.four;
      notes = refl;
      each = λ i. rw (each_unnoted i) (rw n.free (free_each i));
    }

pub whole : (s : D.Scheduler) → New s → (cs : List Call) (t store : List ℕ) → Same (run cs (world s t store)) (serially cs s t store)
unfolding serially
whole s n cs t store = runs cs (length store) (world s t store) (replicate 4 unnoted) refl (new_tied s n t store)

-- the notes left are the open jobs
pub notes_open : (d : Ran) (k : SerialRan) → Same d k → open_at d.world.scheduler.jobs ≡ noted_at k.serial.notes
notes_open d k r =
    flags (settings_of d.world.scheduler) d.world.scheduler.jobs r.notes d.world.store d.world.table r.tied.each
    ∙ ap (λ (x : Serial). noted_at x.notes) (sym r.serial_is)
