-- A request from our writer has a good form, a right authenticator and a right type 80. So opening does not discard it, and of the discards only
-- D6, for its stamp, is left.
-- Assumes nothing.
use mathlib.Core.Path.{◌≡◌, refl, subst}
use mathlib.Core.Bool.{Bool, true, false, cond}
use mathlib.Core.List.{List}
use Prim.Native.Nat.{ℕ}
use lib.IntN.{ℤ}
use lib.ListN.{length}
use Rattle.std.specs.Prelude.{Option, Some, None}
use Rattle.refusals.specs.declared.Refusal.{Refusal}
use Rattle.refusals.specs.declared.Discard.{Discard}
use Rattle.refusals.specs.declared.Discard.TheVariants as D
use Rattle.packet_auth.specs.Signing.{zeros}
use Rattle.rule_stamp.specs.Stamp.{stamp_of, stale, skew_of}
use Rattle.rule_causes.specs.declared.cause.Cause.{Cause}
use Rattle.rule_causes.specs.Causes.{cause_of}
use Rattle.rule_verdict.specs.declared.Verdict as R
use Rattle.rule_verdict.specs.declared.Verdict.TheVariants as J
use Rattle.packet_form.specs.Packet.{code_of, area_of}
use Rattle.nas_settings.specs.Settings.{Settings}
use Rattle.packet_form.specs.Discards.{form_of}
use Rattle.packet_mac.specs.Discards.{bad_mac}
use Rattle.rule_verdict.specs.Discards.{signed_by}
use Rattle.rule_verdict.specs.Verdict.{nak_or, fresh_verdict, stamp_verdict, check_verdict, verdict_of}
use Rattle.das_answer.specs.declared.Answer.TheVariants as A
use Rattle.das_handle.specs.Handle.{handle_answer}
use Rattle.dac_write.specs.Writer.{Draft, write_refusal, request_of}
use Rattle.thm_exchange.proofs.Requests.{written_form, written-signed, written-maced}
use Rattle.sched_state.specs.declared.Scheduler as S
use Rattle.sched_state.specs.declared.Outcome.TheVariants as O
use Rattle.sched_state.specs.Scheduler.{open_at}
use Rattle.sched_state.specs.Refusals.{open_refusal}
use Rattle.sched_state.specs.Calls.{unless_refused, opened_as, open_called}
use Rattle.sched_state.specs.Runs.{Open, World, call}
use Rattle.thm_demands.proofs.Handled.{handling}

-- a discard is D6
abbrev Sixth : R.Verdict → Type 0
Sixth (J.Discarded d) = d ≡ D.Timestamp
Sixth (J.Stale k) = Unit {0}
Sixth (J.Nak c k) = Unit {0}
Sixth (J.Passed k) = Unit {0}

module _ (g : Settings) (p : List ℕ) (clock : ℕ) where
  by_cause : (k : ℤ) (c : Option Cause) → Sixth (nak_or k c)
  by_cause k (Some c) = tt
  by_cause k None = tt

  by_stale : (v : ℕ) (b : Bool) → Sixth (cond b (J.Stale (skew_of v clock)) (fresh_verdict g.nas_ip g.nas_id p (skew_of v clock)))
  unfolding fresh_verdict
  by_stale v true = tt
  by_stale v false = by_cause (skew_of v clock) (cause_of (code_of p) g.nas_ip g.nas_id (area_of p))

  by_stamp : (x : Option ℕ) → Sixth (stamp_verdict g p clock x)
  by_stamp (Some v) = by_stale v (stale v clock)
  by_stamp None = refl

  by_signs : form_of p ≡ None → signed_by g.secret p ≡ true → bad_mac zeros g.secret p ≡ false → Sixth (verdict_of g (signed_by g.secret p) p clock)
  unfolding verdict_of check_verdict
  by_signs f s m = rw (f, s, m) (by_stamp (stamp_of (area_of p)))

-- a packet of good form is refused or opened
not_discarded : (s : S.Scheduler) (p : List ℕ) (clock : ℕ) (r : Option Refusal) (d : Discard)
    → (unless_refused s r (opened_as s p clock None)).outcome ≡ O.Discarded d → ⊥
not_discarded s p clock None d e = cc
not_discarded s p clock (Some r) d e = cc

module _ (secret out : List ℕ) (d : Draft) (written : write_refusal secret out d ≡ None) where
  pub opens : (w : World) (clock : ℕ) (why : Discard) → (call (Open (request_of secret d) clock) w).out.outcome ≡ O.Discarded why → ⊥
  unfolding call open_called
  opens w clock why e =
      let s = w.scheduler in
      not_discarded s (request_of secret d) clock (open_refusal (open_at s.jobs) (length w.store)) why (rw (written_form secret out d written) at e)

pub sixth : (g : Settings) (out : List ℕ) (d : Draft) → write_refusal g.secret out d ≡ None
    → (t b : List ℕ) (clock : ℕ) (why : Discard) → handle_answer g t b (request_of g.secret d) clock ≡ A.Discarded why → why ≡ D.Timestamp
sixth g out d written t b clock why e =
    let p = request_of g.secret d in
    subst Sixth ((handling g t b p clock).discards why e).1
    (by_signs g p clock (written_form g.secret out d written) (written-signed g.secret out d written) (written-maced g.secret out d written))
