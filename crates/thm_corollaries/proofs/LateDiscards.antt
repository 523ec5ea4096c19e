-- While nothing else writes the store, a step discards as D4 to D6 alone: what it finishes is a noted request handled whole, and a request is noted
-- only if none of D1 to D3 applies, so what is left is the verdict of Check.
-- Assumes nothing.
use mathlib.Core.Path.{◌≡◌, refl, sym, subst}
use mathlib.Core.Bool.{Bool, true, false, cond}
use mathlib.Core.List.{List, [], ◌∷◌}
use Prim.Native.Nat.{ℕ}
use lib.ListN.{length, get_or}
use Rattle.std.specs.Prelude.{Option, Some, None}
use Rattle.refusals.specs.declared.Refusal.{Refusal}
use Rattle.refusals.specs.declared.Discard.{Discard}
use Rattle.refusals.specs.Numbers.{discard_number}
use Rattle.nas_settings.specs.Settings.{Settings}
use Rattle.octet_numbers.specs.Runs.{member}
use Rattle.packet_form.specs.Discards.{form_of}
use Rattle.rule_verdict.specs.Discards.{signed_by}
use Rattle.rule_verdict.specs.Verdict.{verdict_of}
use Rattle.das_answer.specs.declared.Answer as A'
use Rattle.das_answer.specs.declared.Answer.TheVariants as A
use Rattle.das_handle.specs.Handle.{handle_answer}
use Rattle.sched_job.specs.declared.Job as B
use Rattle.sched_state.specs.declared.Scheduler as D
use Rattle.sched_state.specs.declared.Outcome.TheVariants as O
use Rattle.sched_state.specs.Scheduler.{settings_of, job_at, part_of}
use Rattle.sched_state.specs.Refusals.{step_refusal}
use Rattle.sched_state.specs.Runs.{Call, Step, World, Out, call, run}
use Rattle.thm_serial.specs.Serial.{Note, unnoted, noted, note_at, noted_at, serial_did, serial_unless_refused, handled, serial_step, serial_call}
use Rattle.thm_serial.specs.Demand3.{finished, world, New}
use Rattle.thm_serial.proofs.Invariant.{serial_of, JobTied, Tied}
use Rattle.thm_serial.proofs.CallAgreement.{call_agrees}
use Rattle.thm_serial.proofs.Whole.{whole}
use Rattle.thm_demands.proofs.AnswerKinds.{WhenDone}
use Rattle.thm_demands.proofs.DiscardNumbers.{Among, check_among}
use Rattle.thm_demands.proofs.Handled.{handling}

-- an answer that discards does so as D4 to D6
abbrev Late : A'.Answer → Type 0
Late a = (d : Discard) → a ≡ A.Discarded d → member (discard_number d) (4 ∷ 5 ∷ 6 ∷ []) ≡ true

handled_late : (g : Settings) (t b p : List ℕ) (clock : ℕ) → form_of p ≡ None → Late (handle_answer g t b p clock)
unfolding verdict_of
handled_late g t b p clock f d e =
    let judged : Among (4 ∷ 5 ∷ 6 ∷ []) (verdict_of g (signed_by g.secret p) p clock) = rw f (check_among g p clock (signed_by g.secret p)) in
    subst (Among (4 ∷ 5 ∷ 6 ∷ [])) ((handling g t b p clock).discards d e).1 judged

module _ (w : World) (ns : List Note) (b : List ℕ) (j : ℕ) where
  by_note : (n : Note) (x : B.Job) (q : List ℕ) (r : Option Refusal) (done : Bool) → JobTied (settings_of w.scheduler) x n q w.table
      → WhenDone Late
      (serial_unless_refused b (serial_of w ns) r (cond done (handled n j b (serial_of w ns)) (serial_did O.Going b (serial_of w ns)))).out.outcome
  by_note unnoted x q None true h = tt
  by_note (noted p clock) x q None true h = handled_late (settings_of w.scheduler) w.table b p clock h.good
  by_note n x q None false h = tt
  by_note n x q (Some r) done h = tt

  step_late : Tied w ns → WhenDone Late (call (Step j b) w).out.outcome
  unfolding serial_call serial_step note_at
  step_late h =
      subst (λ (o : Out). WhenDone Late o.outcome) (sym (call_agrees (Step j b) w ns h).out_is)
      (by_note (get_or ns j unnoted) (job_at w.scheduler.jobs j) (part_of j w.store) (step_refusal (noted_at ns) (length w.store) j w.table b)
      (finished (call (Step j b) w).out) (h.each j))

pub discards_late : (s : D.Scheduler) → New s → (cs : List Call) (t store : List ℕ) (j : ℕ) (b : List ℕ) (d : Discard)
    → (call (Step j b) (run cs (world s t store)).world).out.outcome ≡ O.Done (A.Discarded d) → member (discard_number d) (4 ∷ 5 ∷ 6 ∷ []) ≡ true
discards_late s new cs t store j b d e =
    let r = whole s new cs t store in
    subst (WhenDone Late) e (step_late (run cs (world s t store)).world r.notes b j r.tied) d refl
