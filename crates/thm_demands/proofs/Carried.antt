-- The reply of a request that is answered: R2 does not apply to its secret, and the request has a good form, so the reply read back is what was put
-- into it, signed over the request's authenticator, and it passes the reply check. An answer tells the length that its reply is written with.
-- Assumes nothing.
use mathlib.Core.Path.{◌≡◌, refl, sym, subst, ◌∙◌}
use mathlib.Core.Bool.{Bool, true, false, cond, true≢false}
use mathlib.Core.List.{List}
use Prim.Native.Nat.{ℕ, ◌≤◌}
use native.Mathlib.Omega.{arith}
use lib.Dec.{eqb}
use lib.IntN.{ℤ}
use lib.ListN.{length}
use Rattle.std.specs.Prelude.{Option, Some, None}
use Rattle.table_slots.specs.Slot.{slot_count}
use Rattle.refusals.specs.declared.Refusal.{Refusal}
use Rattle.refusals.specs.declared.Refusal.TheVariants as B
use Rattle.rule_causes.specs.declared.cause.Cause.{Cause}
use Rattle.rule_causes.specs.declared.cause.Cause.TheVariants.{SessionNotFound}
use Rattle.packet_form.specs.Packet.{length_of, area_of}
use Rattle.nas_settings.specs.Settings.{Settings, bad_secret}
use Rattle.rule_verdict.specs.declared.Verdict as R
use Rattle.rule_verdict.specs.declared.Verdict.TheVariants as J
use Rattle.rule_verdict.specs.Discards.{signed_by}
use Rattle.rule_verdict.specs.Verdict.{verdict_of}
use Rattle.das_reply_parts.specs.Reply.{body_of, reply_of, reply_length}
use Rattle.das_reply_parts.proofs.Lengths.{length-reply_of}
use Rattle.das_reply.proofs.Back.{reply_code, reply_identifier, reply_length_lem, reply_area}
use Rattle.das_reply.proofs.Seals.{reply_signed}
use Rattle.das_effects.specs.Matching.{match_count}
use Rattle.das_answer.specs.declared.Answer as D
use Rattle.das_answer.specs.declared.Answer.TheVariants as A
use Rattle.das_answer.specs.Commit.{count_answer}
use Rattle.das_handle.specs.Refusals.{refusal_of}
use Rattle.das_handle.specs.Handle.{answer_of, unless_refused, handle_answer}
use Rattle.dac_check.specs.ReplyCheck.{check_answer}
use Rattle.thm_exchange.proofs.Answered.{reply_passes}
use Rattle.das_answer.specs.Replied.{silent}
use Rattle.thm_demands.specs.Demand2.{Carries}
use Rattle.thm_demands.proofs.Replied.{formed}

-- ---- an answered request was not refused

not_refused : (a : D.Answer) (r : Option Refusal) → silent (unless_refused r a) ≡ false → r ≡ None
not_refused a None h = refl
not_refused a (Some r) h = absurd (true≢false h)

no_two : (x y : Bool) (r : Option Refusal) → cond x (Some B.TableLength) (cond y (Some B.SecretLength) r) ≡ None → y ≡ false
no_two true y r e = cc
no_two false true r e = cc
no_two false false r e = refl

good_secret : (g : Settings) (t b : List ℕ) → refusal_of g t b ≡ None → bad_secret g.secret ≡ false
unfolding refusal_of
good_secret g t b e = no_two (eqb (slot_count t) 0) (bad_secret g.secret) _ e

-- ---- the length that an answer tells

abbrev TellsSize : List ℕ → D.Answer → Type 0
TellsSize p (A.Refused n) = Unit {0}
TellsSize p (A.Discarded d) = Unit {0}
TellsSize p (A.Stale k) = Unit {0}
TellsSize p (A.Nak c k n) = reply_length p (Some c) ≡ n
TellsSize p (A.Ack m k n) = reply_length p None ≡ n

count_tells : (p : List ℕ) (n : ℕ) (k : ℤ) (b : Bool)
    → TellsSize p (cond b (A.Nak SessionNotFound k (reply_length p (Some SessionNotFound))) (A.Ack n k (reply_length p None)))
count_tells p n k true = refl
count_tells p n k false = refl

verdict_tells : (p t : List ℕ) (x : R.Verdict) → TellsSize p (answer_of p t x)
unfolding count_answer
verdict_tells p t (J.Discarded d) = tt
verdict_tells p t (J.Stale k) = tt
verdict_tells p t (J.Nak c k) = refl
verdict_tells p t (J.Passed k) = count_tells p (match_count (area_of p) t) k (eqb (match_count (area_of p) t) 0)

refused_tells : (p t : List ℕ) (x : R.Verdict) (r : Option Refusal) → TellsSize p (unless_refused r (answer_of p t x))
refused_tells p t x None = verdict_tells p t x
refused_tells p t x (Some r) = tt

module _ (g : Settings) (t b p : List ℕ) (clock : ℕ) where
  answer_tells : TellsSize p (handle_answer g t b p clock)
  unfolding handle_answer
  answer_tells = refused_tells p t (verdict_of g (signed_by g.secret p) p clock) (refusal_of g t b)

  pub nak_size : (c : Cause) (k : ℤ) (n : ℕ) → handle_answer g t b p clock ≡ A.Nak c k n → length (reply_of g.secret p (Some c)) ≡ n
  nak_size c k n e = length-reply_of g.secret p (Some c) ∙ subst (TellsSize p) e answer_tells

  pub ack_size : (m : ℕ) (k : ℤ) (n : ℕ) → handle_answer g t b p clock ≡ A.Ack m k n → length (reply_of g.secret p None) ≡ n
  ack_size m k n e = length-reply_of g.secret p None ∙ subst (TellsSize p) e answer_tells

  -- ---- what a reply carries

  pub unrefused : silent (handle_answer g t b p clock) ≡ false → refusal_of g t b ≡ None
  unfolding handle_answer
  unrefused h = not_refused (answer_of p t (verdict_of g (signed_by g.secret p) p clock)) (refusal_of g t b) h

  pub carries : silent (handle_answer g t b p clock) ≡ false → (c : Option Cause) → Carries g.secret p (reply_of g.secret p c) c
  unfolding body_of check_answer
  carries h c =
      let f = formed g t b p clock h in
      let short : reply_length p c ≤ 4096 = omega (arith, f.room c, f.sized.high) in
      record {
        code = reply_code g.secret p c;
        identifier = reply_identifier g.secret p c;
        authentic = rw (reply_length_lem g.secret p c short) (sym (reply_signed g.secret p (length_of p) c f.sized));
        body = reply_area g.secret p c short;
        passes = rw (good_secret g t b (unrefused h), reply_passes g.secret p (length_of p) c f.sized short f.form);
      }
