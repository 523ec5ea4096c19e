-- An ACK comes from a request that no rule up to cause 6 stops, and at least one session matches: its count is that of the matching sessions.
-- Assumes nothing.
use mathlib.Core.Path.{◌≡◌, refl, sym, ap}
use mathlib.Core.Bool.{Bool, true, false, cond}
use mathlib.Core.List.{List}
use Prim.Native.Nat.{ℕ}
use lib.Dec.{eqb}
use lib.IntN.{ℤ}
use Rattle.std.specs.Prelude.{Option, Some, None}
use Rattle.refusals.specs.declared.Refusal.{Refusal}
use Rattle.refusals.specs.declared.Discard.{Discard}
use Rattle.rule_causes.specs.declared.cause.Cause.TheVariants.{SessionNotFound}
use Rattle.rule_causes.specs.Causes.{cause_of}
use Rattle.rule_verdict.specs.declared.Verdict as R
use Rattle.rule_verdict.specs.declared.Verdict.TheVariants as J
use Rattle.packet_form.specs.Packet.{code_of, area_of}
use Rattle.nas_settings.specs.Settings.{Settings}
use Rattle.packet_form.specs.Discards.{form_of}
use Rattle.rule_verdict.specs.Discards.{signed_by}
use Rattle.rule_verdict.specs.Verdict.{check_verdict, form_verdict, verdict_of}
use Rattle.das_effects.specs.Matching.{match_count}
use Rattle.das_answer.specs.declared.Answer.TheVariants as A
use Rattle.das_answer.specs.Commit.{count_answer}
use Rattle.das_handle.specs.Refusals.{refusal_of}
use Rattle.das_handle.specs.Handle.{answer_of, unless_refused, handle_answer}
use Rattle.das_reply.proofs.Fresh.{uncaused}
use Rattle.das_handle.proofs.Bounds.{change_count}

pub record Acked (g : Settings) (t p : List ℕ) (m : ℕ) : Type 0 where
  pub uncaused_by : cause_of (code_of p) g.nas_ip g.nas_id (area_of p) ≡ None
  pub count : m ≡ match_count (area_of p) t

-- the count that an ACK tells
by_count : (n m i j l : ℕ) (k skew : ℤ) (b : Bool) → cond b (A.Nak SessionNotFound k i) (A.Ack n k j) ≡ A.Ack m skew l → m ≡ n
by_count n m i j l k skew true e = cc
by_count n m i j l k skew false e = sym (ap change_count e)

module _ (g : Settings) (t p : List ℕ) (clock m n : ℕ) (skew : ℤ) where
  by_signed : (signed : Bool) (x : R.Verdict) → x ≡ check_verdict g signed p clock → answer_of p t x ≡ A.Ack m skew n → Acked g t p m
  unfolding check_verdict count_answer
  by_signed signed (J.Discarded d) h e = cc
  by_signed signed (J.Stale k) h e = cc
  by_signed signed (J.Nak c k) h e = cc
  by_signed true (J.Passed k) h e =
      record { uncaused_by = uncaused g p clock (J.Passed k) h k refl; count = by_count _ m _ _ n k skew (eqb (match_count (area_of p) t) 0) e }
  by_signed false (J.Passed k) h e = cc

  by_form : (signed : Bool) (f : Option Discard) → answer_of p t (form_verdict g signed p clock f) ≡ A.Ack m skew n → Acked g t p m
  by_form signed None e = by_signed signed (check_verdict g signed p clock) refl e
  by_form signed (Some d) e = cc

  by_refusal : (signed : Bool) (r : Option Refusal) → unless_refused r (answer_of p t (verdict_of g signed p clock)) ≡ A.Ack m skew n → Acked g t p m
  unfolding verdict_of
  by_refusal signed None e = by_form signed (form_of p) e
  by_refusal signed (Some r) e = cc

  pub acked : (b : List ℕ) → handle_answer g t b p clock ≡ A.Ack m skew n → Acked g t p m
  unfolding handle_answer
  acked b e = by_refusal (signed_by g.secret p) (refusal_of g t b) e
