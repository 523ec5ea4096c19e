-- A request and its first Length bytes are handled and opened alike: they meet the same of D1 to D3, and where they meet none they have the same
-- parts, which are all that the later rules, the change of the table, the reply and the copy into the store look at.
-- Assumes nothing.
use mathlib.Core.Path.{◌≡◌, refl, sym, ap, ◌∙◌}
use mathlib.Core.Bool.{Bool, true, false}
use mathlib.Core.List.{List}
use Prim.Native.Nat.{ℕ}
use native.Mathlib.Omega.{arith}
use lib.Seq.{take-take}
use Rattle.std.specs.Prelude.{Option, Some, None}
use Rattle.refusals.specs.declared.Discard.{Discard}
use Rattle.nas_settings.specs.Settings.{Settings}
use Rattle.packet_form.specs.Packet.{length_of}
use Rattle.packet_form.specs.Discards.{form_of}
use Rattle.packet_laws.proofs.SameBytes.{SamePacket}
use Rattle.rule_causes.specs.declared.cause.Cause.TheVariants.{SessionNotFound}
use Rattle.rule_verdict.specs.declared.Verdict as R
use Rattle.rule_verdict.specs.declared.Verdict.TheVariants as J
use Rattle.rule_verdict.specs.Discards.{signed_by}
use Rattle.rule_verdict.specs.Verdict.{check_verdict, verdict_of}
use Rattle.das_answer.specs.declared.Answer as D
use Rattle.das_answer.specs.declared.Answer.TheVariants as A
use Rattle.das_answer.specs.Commit.{count_answer}
use Rattle.das_answer.specs.Replied.{silent}
use Rattle.das_handle.specs.Handle.{answer_of, table_as, handle_answer, handle_table, handle_reply}
use Rattle.sched_state.specs.declared.Scheduler as S
use Rattle.sched_state.specs.Calls.{open_called, open_store}
use Rattle.thm_exchange.proofs.Padded.{same_signed}
use Rattle.thm_serial.proofs.SameAnswers.{check_same, length_same, buffer_same}
use Rattle.thm_demands.proofs.Replied.{formed}
use Rattle.thm_demands.proofs.Second.{demand2}
use Rattle.thm_corollaries.specs.Padding.{unpadded}
use Rattle.thm_corollaries.proofs.Prefixes.{form_same, same_formed}

-- ---- two packets with the same parts

module _ (p q : List ℕ) (s : SamePacket p q) where
  answer_as_lem : (t : List ℕ) (x : R.Verdict) → answer_of q t x ≡ answer_of p t x
  unfolding count_answer
  answer_as_lem t (J.Discarded d) = refl
  answer_as_lem t (J.Stale k) = refl
  answer_as_lem t (J.Nak c k) = rw (length_same p q s (Some c))
  answer_as_lem t (J.Passed k) = rw (s.area, length_same p q s (Some SessionNotFound), length_same p q s None)

  table_as_lem : (t : List ℕ) (a : D.Answer) → table_as q t a ≡ table_as p t a
  table_as_lem t (A.Refused r) = refl
  table_as_lem t (A.Discarded d) = refl
  table_as_lem t (A.Stale k) = refl
  table_as_lem t (A.Nak c k n) = refl
  table_as_lem t (A.Ack m k n) = rw (s.area, s.code)

-- ---- handling

module _ (g : Settings) (t b p : List ℕ) (clock : ℕ) where
  judged_by : (d : Option Discard) → form_of p ≡ d
      → answer_of (unpadded p) t (verdict_of g (signed_by g.secret (unpadded p)) (unpadded p) clock)
      ≡ answer_of p t (verdict_of g (signed_by g.secret p) p clock)
  unfolding verdict_of
  judged_by None e =
      let s = same_formed p e in
      rw (form_same p, e, same_signed p (unpadded p) s g.secret, check_same p (unpadded p) s g clock (signed_by g.secret p))
      (answer_as_lem p (unpadded p) s t (check_verdict g (signed_by g.secret p) p clock))
  judged_by (Some d) e = rw (form_same p, e)

  answer_same : handle_answer g t b (unpadded p) clock ≡ handle_answer g t b p clock
  unfolding handle_answer
  answer_same = rw (judged_by (form_of p) refl)

  pub answer : handle_answer g t b p clock ≡ handle_answer g t b (unpadded p) clock
  answer = sym answer_same

  -- an answer without a reply leaves table and reply buffer; one with a reply is to a request that meets none of D1 to D3
  table_by : (d : Bool) → silent (handle_answer g t b p clock) ≡ d → handle_table g t b p clock ≡ handle_table g t b (unpadded p) clock
  unfolding handle_table
  table_by true e =
      (demand2.judging g t b p clock).silent_table e
      ∙ sym ((demand2.judging g t b (unpadded p) clock).silent_table (ap silent answer_same ∙ e))
  table_by false e =
      let s = same_formed p (formed g t b p clock e).form in
      rw answer_same (sym (table_as_lem p (unpadded p) s t (handle_answer g t b p clock)))

  pub table : handle_table g t b p clock ≡ handle_table g t b (unpadded p) clock
  table = table_by (silent (handle_answer g t b p clock)) refl

  reply_by : (d : Bool) → silent (handle_answer g t b p clock) ≡ d → handle_reply g t b p clock ≡ handle_reply g t b (unpadded p) clock
  unfolding handle_reply
  reply_by true e =
      (demand2.judging g t b p clock).silent_reply e
      ∙ sym ((demand2.judging g t b (unpadded p) clock).silent_reply (ap silent answer_same ∙ e))
  reply_by false e =
      let s = same_formed p (formed g t b p clock e).form in
      rw answer_same (sym (buffer_same p (unpadded p) s g.secret b (handle_answer g t b p clock)))

  pub reply : handle_reply g t b p clock ≡ handle_reply g t b (unpadded p) clock
  reply = reply_by (silent (handle_answer g t b p clock)) refl

-- ---- opening

module _ (s : S.Scheduler) (p store : List ℕ) where
  opened_by : (clock : ℕ) (d : Option Discard) → form_of p ≡ d → open_called s p clock store ≡ open_called s (unpadded p) clock store
  unfolding open_called
  opened_by clock None e = rw (form_same p, e, (same_formed p e).long)
  opened_by clock (Some d) e = rw (form_same p, e)

  pub opened : (clock : ℕ) → open_called s p clock store ≡ open_called s (unpadded p) clock store
  opened clock = opened_by clock (form_of p) refl

  stored_by : (d : Option Discard) → form_of p ≡ d → open_store s p store ≡ open_store s (unpadded p) store
  unfolding open_store
  stored_by None e = rw (form_same p, e, (same_formed p e).long, take-take (length_of p) (length_of p) p (omega arith))
  stored_by (Some d) e = rw (form_same p, e)

  pub stored : open_store s p store ≡ open_store s (unpadded p) store
  stored = stored_by (form_of p) refl
