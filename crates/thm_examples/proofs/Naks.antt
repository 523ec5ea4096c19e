-- A NAK 503 tells the length of its reply, whichever rule gave it, and stands at the buffer's start; without State and type 80 its bytes are head,
-- authenticator, Error-Cause and the Proxy-States. Assumes nothing.
use mathlib.Core.Path.{◌≡◌, refl, ap, ◌∙◌}
use mathlib.Core.Bool.{Bool, true, false, cond}
use mathlib.Core.List.{List, [], ◌∷◌, ◌++◌, append-nil}
use Prim.Native.Nat.{ℕ}
use lib.Dec.{eqb}
use lib.IntN.{ℤ}
use lib.ListN.{length}
use Rattle.octet_numbers.specs.Numbers.{be_bytes}
use Rattle.octet_numbers.specs.Runs.{write}
use Rattle.attr_walk.specs.Attributes.{attributes, any, kind_is}
use Rattle.std.specs.Prelude.{Option, Some, None}
use Rattle.refusals.specs.declared.Refusal.{Refusal}
use Rattle.rule_causes.specs.declared.cause.Cause.TheVariants.{SessionNotFound}
use Rattle.rule_causes.specs.Causes.{error_cause}
use Rattle.rule_verdict.specs.declared.Verdict.{Verdict}
use Rattle.rule_verdict.specs.declared.Verdict.TheVariants as J
use Rattle.packet_form.specs.Packet.{code_of, identifier_of, area_of}
use Rattle.nas_settings.specs.Settings.{Settings}
use Rattle.rule_verdict.specs.Discards.{signed_by}
use Rattle.rule_verdict.specs.Verdict.{verdict_of}
use Rattle.das_reply.proofs.Back.{reply_parts}
use Rattle.das_reply_parts.specs.Reply.{cause_part, proxy_part, body_of, reply_length, head_of, reply_mac, reply_auth, reply_of}
use Rattle.das_reply_parts.proofs.Lengths.{length-reply_auth}
use Rattle.das_effects.specs.Matching.{match_count}
use Rattle.das_answer.specs.declared.Answer.TheVariants as A
use Rattle.das_answer.specs.Commit.{count_answer}
use Rattle.das_answer.specs.Replies.{reply_as}
use Rattle.das_handle.specs.Refusals.{refusal_of}
use Rattle.das_handle.specs.Handle.{answer_of, unless_refused, handle_answer, handle_reply}
use Rattle.thm_examples.proofs.Absent.{no_part, body_rest, length_rest}

-- ---- the length that the answer tells

counted : (p : List ℕ) (k n : ℕ) (skew told : ℤ) (z : Bool)
    → cond z (A.Nak SessionNotFound skew (reply_length p (Some SessionNotFound))) (A.Ack k skew (reply_length p None)) ≡ A.Nak SessionNotFound told n
    → n ≡ reply_length p (Some SessionNotFound)
counted p k n skew told true h = cc
counted p k n skew told false h = cc

told_by_lem : (p t : List ℕ) (v : Verdict) (skew : ℤ) (n : ℕ) → answer_of p t v ≡ A.Nak SessionNotFound skew n
    → n ≡ reply_length p (Some SessionNotFound)
unfolding count_answer
told_by_lem p t (J.Discarded d) skew n h = cc
told_by_lem p t (J.Stale k) skew n h = cc
told_by_lem p t (J.Nak c k) skew n h = cc
told_by_lem p t (J.Passed k) skew n h = counted p (match_count (area_of p) t) n k skew (eqb (match_count (area_of p) t) 0) h

not_refused : (p t : List ℕ) (v : Verdict) (r : Option Refusal) (skew : ℤ) (n : ℕ)
    → unless_refused r (answer_of p t v) ≡ A.Nak SessionNotFound skew n
    → n ≡ reply_length p (Some SessionNotFound)
not_refused p t v None skew n h = told_by_lem p t v skew n h
not_refused p t v (Some r) skew n h = cc

-- ---- the bytes

cause_503 : cause_part (Some SessionNotFound) ≡ 0x65 ∷ 0x06 ∷ 0x00 ∷ 0x00 ∷ 0x01 ∷ 0xF7 ∷ []
unfolding cause_part error_cause be_bytes
cause_503 = refl

module _ (g : Settings) (t b p : List ℕ) (clock : ℕ) (skew : ℤ) (n : ℕ) (told : handle_answer g t b p clock ≡ A.Nak SessionNotFound skew n)
    (no_24 : any (kind_is 24) (attributes (area_of p)) ≡ false) (no_80 : any (kind_is 80) (attributes (area_of p)) ≡ false)
    (proxies : proxy_part (area_of p) ≡ 0x21 ∷ 0x03 ∷ 0x41 ∷ []) where
  short : reply_length p (Some SessionNotFound) ≡ 29
  short = length_rest p (Some SessionNotFound) no_24 no_80 ∙ rw (cause_503, proxies)

  pub told-length : n ≡ 29
  unfolding handle_answer
  told-length = not_refused p t (verdict_of g (signed_by g.secret p) p clock) (refusal_of g t b) skew n told ∙ short

  head : code_of p ≡ 40 → identifier_of p ≡ 7 → head_of p (Some SessionNotFound) ≡ 0x2A ∷ 0x07 ∷ 0x00 ∷ 0x1D ∷ []
  unfolding head_of be_bytes
  head c i = rw (c, i, short)

  body : body_of p (Some SessionNotFound) ≡ 0x65 ∷ 0x06 ∷ 0x00 ∷ 0x00 ∷ 0x01 ∷ 0xF7 ∷ 0x21 ∷ 0x03 ∷ 0x41 ∷ []
  body = body_rest p no_24 (Some SessionNotFound) ∙ rw (cause_503, proxies)

  bytes : code_of p ≡ 40 → identifier_of p ≡ 7 → reply_of g.secret p (Some SessionNotFound)
      ≡ (0x2A ∷ 0x07 ∷ 0x00 ∷ 0x1D ∷ []) ++ reply_auth g.secret p (Some SessionNotFound)
      ++ (0x65 ∷ 0x06 ∷ 0x00 ∷ 0x00 ∷ 0x01 ∷ 0xF7 ∷ 0x21 ∷ 0x03 ∷ 0x41 ∷ [])
  bytes c i =
      reply_parts g.secret p (Some SessionNotFound) ∙ rw (no_part p no_80 (reply_mac g.secret p (Some SessionNotFound)), append-nil, head c i, body)

  pub nak_503 : code_of p ≡ 40 → identifier_of p ≡ 7 → (handle_reply g t b p clock
      ≡ write b 0 ((0x2A ∷ 0x07 ∷ 0x00 ∷ 0x1D ∷ []) ++ reply_auth g.secret p (Some SessionNotFound)
      ++ (0x65 ∷ 0x06 ∷ 0x00 ∷ 0x00 ∷ 0x01 ∷ 0xF7 ∷ 0x21 ∷ 0x03 ∷ 0x41 ∷ [])))
      × (length (reply_auth g.secret p (Some SessionNotFound)) ≡ 16) × (n ≡ 29)
  unfolding handle_reply
  nak_503 c i = (ap (reply_as g.secret p b) told ∙ ap (write b 0) (bytes c i), length-reply_auth g.secret p (Some SessionNotFound), told-length)
