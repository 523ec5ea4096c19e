-- A list of calls leaves what the scheduler was made with: no call of the serial execution changes its settings, and the scheduler's are the same.
-- Assumes nothing.
use mathlib.Core.Path.{◌≡◌, refl, sym, ap, ◌∙◌}
use mathlib.Core.Bool.{Bool, true, false, cond}
use mathlib.Core.List.{List, [], ◌∷◌, map}
use Prim.Native.Nat.{ℕ}
use lib.ListN.{length}
use Rattle.std.specs.Prelude.{Option, Some, None}
use Rattle.refusals.specs.declared.Refusal.{Refusal}
use Rattle.refusals.specs.declared.Discard.{Discard}
use Rattle.nas_settings.specs.Settings.{Settings}
use Rattle.packet_form.specs.Discards.{form_of}
use Rattle.sched_state.specs.declared.Scheduler as D
use Rattle.sched_state.specs.Scheduler.{settings_of, lowest_free}
use Rattle.sched_state.specs.Refusals.{open_refusal, step_refusal, drop_refusal}
use Rattle.sched_state.specs.Runs.{Call, Open, Step, Drop, Start, End, run}
use Rattle.thm_serial.specs.Serial.{Note, unnoted, noted, note_at, noted_at, Serial, SerialDid, serial_unless_refused, handled, serial_opened_as}
use Rattle.thm_serial.specs.Serial.{serial_open, serial_step, serial_drop, serial_call, at_first, serial_run}
use Rattle.thm_serial.specs.Demand3.{finished, world, serially, New}
use Rattle.thm_serial.proofs.Whole.{whole}

-- e left the settings g
record Keeps (g : Settings) (e : SerialDid) : Type 0 where
  same : e.serial.settings ≡ g

either : (g : Settings) (f : Bool) (x y : SerialDid) → Keeps g x → Keeps g y → Keeps g (cond f x y)
either g true x y h i = h
either g false x y h i = i

unless_keeps : (b : List ℕ) (s : Serial) (r : Option Refusal) (x : SerialDid) → Keeps s.settings x → Keeps s.settings (serial_unless_refused b s r x)
unless_keeps b s (Some r) x h = record { same = refl }
unless_keeps b s None x h = h

opened_keeps : (p : List ℕ) (clock j : ℕ) (s : Serial) (d : Option Discard) → Keeps s.settings (serial_opened_as p clock j s d)
opened_keeps p clock j s (Some d) = record { same = refl }
opened_keeps p clock j s None = record { same = refl }

handled_keeps : (n : Note) (j : ℕ) (b : List ℕ) (s : Serial) → Keeps s.settings (handled n j b s)
handled_keeps unnoted j b s = record { same = refl }
handled_keeps (noted p clock) j b s = record { same = refl }

call_keeps : (c : Call) (f : Bool) (size : ℕ) (s : Serial) → Keeps s.settings (serial_call c f size s)
unfolding serial_call serial_open serial_step serial_drop
call_keeps (Open p clock) f size s =
    unless_keeps [] s (open_refusal (noted_at s.notes) size) _ (opened_keeps p clock (lowest_free (noted_at s.notes)) s (form_of p))
call_keeps (Step j b) f size s =
    unless_keeps b s (step_refusal (noted_at s.notes) size j s.table b) _
    (either _ f _ _ (handled_keeps (note_at s.notes j) j b s) (record { same = refl }))
call_keeps (Drop j) f size s = unless_keeps [] s (drop_refusal (noted_at s.notes) j) _ (record { same = refl })
call_keeps (Start x) f size s = record { same = refl }
call_keeps (End k) f size s = record { same = refl }

run_keeps : (cs : List Call) (fs : List Bool) (size : ℕ) (s : Serial) → (serial_run cs fs size s).serial.settings ≡ s.settings
unfolding serial_run
run_keeps [] fs size s = refl
run_keeps (c ∷ cs) [] size s = refl
run_keeps (c ∷ cs) (f ∷ fs) size s = run_keeps cs fs size (serial_call c f size s).serial ∙ (call_keeps c f size s).same

pub settings_kept : (s : D.Scheduler) → New s → (cs : List Call) (t store : List ℕ)
    → settings_of (run cs (world s t store)).world.scheduler ≡ settings_of s
unfolding serially
settings_kept s new cs t store =
    sym (ap (λ (x : Serial). x.settings) (whole s new cs t store).serial_is)
    ∙ run_keeps cs (map finished (run cs (world s t store)).outs) (length store) (at_first (settings_of s) t)
