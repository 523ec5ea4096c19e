-- The reply check finds the same first failure with padding and without, after the request and after the reply: one that meets D1 meets it without
-- padding too (V1, V2), and any other has the same parts as its first Length bytes.
-- Assumes nothing.
use mathlib.Core.Path.{◌≡◌, refl}
use mathlib.Core.Bool.{Bool, true, false}
use mathlib.Core.List.{List}
use Prim.Native.Nat.{ℕ}
use Rattle.packet_form.specs.Packet.{auth_of}
use Rattle.packet_form.specs.Discards.{bad_length, bad_attributes, form_of}
use Rattle.packet_laws.proofs.SameBytes.{same_signature, same_mac}
use Rattle.dac_check.specs.ReplyCheck.{bad_request, bad_reply, wrong_code, wrong_identifier, wrong_authenticator, failure_of, check_answer}
use Rattle.thm_corollaries.specs.Padding.{unpadded}
use Rattle.thm_corollaries.proofs.Prefixes.{bad_same, form_same, same_good}

module _ (secret q r : List ℕ) where
  request_by : (b : Bool) → bad_length q ≡ b → failure_of secret q r ≡ failure_of secret (unpadded q) r
  unfolding failure_of bad_request form_of wrong_code wrong_identifier wrong_authenticator
  request_by true e = rw (bad_same q, e)
  request_by false e = let s = same_good q e in rw (form_same q, s.code, s.identifier, s.auth)

  pub request_checked : check_answer secret q r ≡ check_answer secret (unpadded q) r
  unfolding check_answer
  request_checked = rw (request_by (bad_length q) refl)

  reply_by : (b : Bool) → bad_length r ≡ b → failure_of secret q r ≡ failure_of secret q (unpadded r)
  unfolding failure_of bad_reply bad_attributes wrong_code wrong_identifier wrong_authenticator
  reply_by true e = rw (bad_same r, e)
  reply_by false e =
      let s = same_good r e in
      let mac = same_mac r (unpadded r) s (auth_of q) secret in
      rw (bad_same r, mac, s.area, s.code, s.identifier, s.auth, same_signature r (unpadded r) s (auth_of q) secret)

  pub reply_checked : check_answer secret q r ≡ check_answer secret q (unpadded r)
  unfolding check_answer
  reply_checked = rw (reply_by (bad_length r) refl)
