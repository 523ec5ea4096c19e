-- An answer with a reply comes from a verdict that has one: so the request has a good form and every reply to it fits.
-- Assumes nothing.
use mathlib.Core.Path.{◌≡◌, refl}
use mathlib.Core.Bool.{Bool, true, false, false≢true, true≢false}
use mathlib.Core.List.{List}
use Prim.Native.Nat.{ℕ, ◌≤◌}
use Rattle.std.specs.Prelude.{Option, Some, None}
use Rattle.refusals.specs.declared.Refusal.{Refusal}
use Rattle.refusals.specs.declared.Discard.{Discard}
use Rattle.rule_causes.specs.declared.cause.Cause.{Cause}
use Rattle.rule_verdict.specs.declared.Verdict as R
use Rattle.rule_verdict.specs.declared.Verdict.TheVariants as J
use Rattle.packet_form.specs.Packet.{length_of}
use Rattle.nas_settings.specs.Settings.{Settings}
use Rattle.packet_form.specs.Discards.{form_of, Sized}
use Rattle.rule_verdict.specs.Discards.{signed_by}
use Rattle.rule_verdict.specs.Verdict.{check_verdict, form_verdict, verdict_of}
use Rattle.packet_form.proofs.Forms.{form_sized}
use Rattle.das_reply_parts.specs.Reply.{reply_length}
use Rattle.das_handle.specs.Refusals.{refusal_of}
use Rattle.das_handle.specs.Handle.{answer_of, unless_refused, handle_answer}
use Rattle.das_reply.proofs.Fresh.{answered, fits}
use Rattle.das_answer.specs.Replied.{silent}

pub record Formed (g : Settings) (p : List ℕ) (clock : ℕ) : Type 0 where
  pub form : form_of p ≡ None
  pub sized : Sized p (length_of p)
  pub room : (c : Option Cause) → reply_length p c ≤ length_of p

by_signed : (g : Settings) (p : List ℕ) (clock : ℕ) (b : Bool) → form_of p ≡ None → answered (check_verdict g b p clock) ≡ true → Formed g p clock
unfolding check_verdict
by_signed g p clock true z h =
    let sized = form_sized p z in
    record { form = z; sized = sized; room = λ c. fits g p clock (check_verdict g true p clock) refl (length_of p) c sized h }
by_signed g p clock false z h = absurd (false≢true h)

by_form : (g : Settings) (p : List ℕ) (clock : ℕ) (signed : Bool) (f : Option Discard) → form_of p ≡ f
    → answered (form_verdict g signed p clock f) ≡ true → Formed g p clock
by_form g p clock signed None z h = by_signed g p clock signed z h
by_form g p clock signed (Some d) z h = absurd (false≢true h)

by_verdict : (p t : List ℕ) (x : R.Verdict) → silent (answer_of p t x) ≡ false → answered x ≡ true
by_verdict p t (J.Discarded d) h = absurd (true≢false h)
by_verdict p t (J.Stale k) h = absurd (true≢false h)
by_verdict p t (J.Nak c k) h = refl
by_verdict p t (J.Passed k) h = refl

by_refusal : (p t : List ℕ) (x : R.Verdict) (r : Option Refusal) → silent (unless_refused r (answer_of p t x)) ≡ false → answered x ≡ true
by_refusal p t x None h = by_verdict p t x h
by_refusal p t x (Some r) h = absurd (true≢false h)

pub formed : (g : Settings) (t b p : List ℕ) (clock : ℕ) → silent (handle_answer g t b p clock) ≡ false → Formed g p clock
unfolding handle_answer verdict_of
formed g t b p clock h =
    by_form g p clock (signed_by g.secret p) (form_of p) refl
    (by_refusal p t (verdict_of g (signed_by g.secret p) p clock) (refusal_of g t b) h)
