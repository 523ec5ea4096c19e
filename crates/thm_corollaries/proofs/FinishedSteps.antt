-- A step that finishes a noted request answers and replies as handling the request whole does: so does the serial execution, and the two agree.
-- Assumes nothing.
use mathlib.Core.Path.{◌≡◌, refl, sym, ap, subst, ◌∙◌}
use mathlib.Core.Bool.{Bool, true, false, cond}
use mathlib.Core.List.{List}
use Prim.Native.Nat.{ℕ}
use lib.ListN.{length}
use Rattle.std.specs.Prelude.{Option, Some, None}
use Rattle.refusals.specs.declared.Refusal.{Refusal}
use Rattle.nas_settings.specs.Settings.{Settings}
use Rattle.das_answer.specs.declared.Answer.{Answer}
use Rattle.das_handle.specs.Handle.{handle_answer, handle_reply}
use Rattle.sched_state.specs.declared.Scheduler as D
use Rattle.sched_state.specs.declared.Outcome.TheVariants as O
use Rattle.sched_state.specs.Scheduler.{settings_of}
use Rattle.sched_state.specs.Refusals.{step_refusal}
use Rattle.sched_state.specs.Runs.{Call, Step, World, Out, call, run}
use Rattle.thm_serial.specs.Serial.{noted, note_at, noted_at, Serial, serial_did, serial_unless_refused, handled, serial_step, serial_call}
use Rattle.thm_serial.specs.Demand3.{finished, world, serially, New}
use Rattle.thm_serial.proofs.Invariant.{serial_of}
use Rattle.thm_serial.proofs.CallAgreement.{call_agrees}
use Rattle.thm_serial.proofs.Whole.{whole}
use Rattle.thm_demands.proofs.AnswerKinds.{WhenDone}
use Rattle.thm_corollaries.proofs.Steady.{settings_kept}

module _ (b p : List ℕ) (clock : ℕ) where
  -- the answer a and the reply buffer r are those of the request handled whole
  abbrev pub Handled : Settings → List ℕ → List ℕ → Answer → Type 0
  Handled g t r a = (handle_answer g t b p clock ≡ a) × (r ≡ handle_reply g t b p clock)

  -- claimed of a step that finished, of others nothing
  abbrev Told : Settings → List ℕ → Out → Type 0
  Told g t o = WhenDone (Handled g t o.reply) o.outcome

  told : (r : Option Refusal) (done : Bool) (j : ℕ) (s : Serial)
      → Told s.settings s.table (serial_unless_refused b s r (cond done (handled (noted p clock) j b s) (serial_did O.Going b s))).out
  told None true j s = (refl, refl)
  told None false j s = tt
  told (Some r) done j s = tt

  call-told : (done : Bool) (size j : ℕ) (s : Serial) → note_at s.notes j ≡ noted p clock
      → Told s.settings s.table (serial_call (Step j b) done size s).out
  unfolding serial_call serial_step
  call-told done size j s e = rw e (told (step_refusal (noted_at s.notes) size j s.table b) done j s)

  module _ (s : D.Scheduler) (new : New s) (cs : List Call) (t store : List ℕ) (j : ℕ)
      (note : note_at (serially cs s t store).serial.notes j ≡ noted p clock) where
    abbrev left : World
    left = (run cs (world s t store)).world

    step-told : Told (settings_of left.scheduler) left.table (call (Step j b) left).out
    step-told =
        let r = whole s new cs t store in
        let here : note_at r.notes j ≡ noted p clock = ap (λ (x : Serial). note_at x.notes j) (sym r.serial_is) ∙ note in
        subst (Told (settings_of left.scheduler) left.table) (sym (call_agrees (Step j b) left r.notes r.tied).out_is)
        (call-told (finished (call (Step j b) left).out) (length left.store) j (serial_of left r.notes) here)

    pub step_handles : (a : Answer) → (call (Step j b) left).out.outcome ≡ O.Done a
        → Handled (settings_of s) left.table (call (Step j b) left).out.reply a
    step_handles a e =
        subst (λ (g : Settings). Handled g left.table (call (Step j b) left).out.reply a) (settings_kept s new cs t store)
        (subst (WhenDone (Handled (settings_of left.scheduler) left.table (call (Step j b) left).out.reply)) e step-told)
