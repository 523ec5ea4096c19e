-- A reply to a well-formed request passes the check: it is a packet signed over the request's authenticator, its code is the request's plus 1 or 2,
-- its identifier the request's, and its attributes but the last are of types 24, 101 and 33. Assumes nothing.
use mathlib.Core.Path.{◌≡◌, refl}
use mathlib.Core.Bool.{Bool, true, false, cond, ◌||◌}
use mathlib.Core.List.{List}
use Prim.Native.Nat.{ℕ, ◌+◌, ◌≤◌}
use native.Mathlib.Omega.{arith}
use borrow.Author.Tests.{eq-eqb, ne_eqb}
use lib.Dec.{eqb}
use Rattle.std.specs.Prelude.{Option, None, is_some}
use Rattle.octet_numbers.specs.Runs.{equal_bytes}
use Rattle.packet_auth.specs.Signing.{authenticator}
use Rattle.rule_causes.specs.declared.cause.Cause.{Cause}
use Rattle.packet_form.specs.Packet.{code_of, identifier_of, length_of, auth_of}
use Rattle.packet_form.specs.Discards.{bad_length, bad_attributes, form_of, Sized}
use Rattle.packet_mac.specs.Discards.{bad_mac}
use Rattle.das_reply_parts.specs.Reply.{body_of, maced, reply_length, head_of, reply_of}
use Rattle.das_reply_parts.proofs.Lengths.{length_auth}
use Rattle.packet_laws.proofs.Passing.{packet_sized, packet-tiled, packet_authentic, packet_mac_lem}
use Rattle.das_reply.proofs.Back.{reply_is, length_is, reply_code, reply_identifier}
use Rattle.das_reply.proofs.Tilings.{body_plain}
use Rattle.dac_check.specs.ReplyCheck.{bad_request, bad_reply, wrong_code, wrong_identifier, wrong_authenticator, failure_of}

one_or_two : (k : ℕ) (b : Bool) → (eqb (k + cond b 2 1) (k + 1) || eqb (k + cond b 2 1) (k + 2)) ≡ true
one_or_two k true = rw (ne_eqb (k + 2) (k + 1) (λ e. omega arith), eq-eqb (k + 2) (k + 2) refl)
one_or_two k false = rw (eq-eqb (k + 1) (k + 1) refl)

module _ (secret q : List ℕ) (n : ℕ) (c : Option Cause) (sized : Sized q n) (short : reply_length q c ≤ 4096) where
  code : ℕ
  code = code_of q + cond (is_some c) 2 1

  pub good_length : bad_length (reply_of secret q c) ≡ false
  unfolding head_of code
  good_length =
      rw (reply_is secret q c)
      (packet_sized secret (auth_of q) (body_of q c) (maced q) code (identifier_of q) (reply_length q c) (body_plain q c) (length_auth q n sized)
      (length_is secret q c) short)

  good_attributes : bad_attributes (reply_of secret q c) ≡ false
  unfolding head_of code
  good_attributes =
      rw (reply_is secret q c)
      (packet-tiled secret (auth_of q) (body_of q c) (maced q) code (identifier_of q) (reply_length q c) (body_plain q c) (length_auth q n sized)
      (length_is secret q c) short)

  good_authenticator :
      equal_bytes (auth_of (reply_of secret q c)) (authenticator (auth_of q) (reply_of secret q c) (length_of (reply_of secret q c)) secret) ≡ true
  unfolding head_of code
  good_authenticator =
      rw (reply_is secret q c)
      (packet_authentic secret (auth_of q) (body_of q c) (maced q) code (identifier_of q) (reply_length q c) (body_plain q c) (length_auth q n sized)
      (length_is secret q c) short)

  good_mac : bad_mac (auth_of q) secret (reply_of secret q c) ≡ false
  unfolding head_of code
  good_mac =
      rw (reply_is secret q c)
      (packet_mac_lem secret (auth_of q) (body_of q c) (maced q) code (identifier_of q) (reply_length q c) (body_plain q c) (length_auth q n sized)
      (length_is secret q c) short)

  pub reply_passes : form_of q ≡ None → failure_of secret q (reply_of secret q c) ≡ None
  unfolding failure_of bad_request bad_reply wrong_code wrong_identifier wrong_authenticator
  reply_passes form =
      rw (
        form,
        good_length,
        good_attributes,
        reply_code secret q c,
        one_or_two (code_of q) (is_some c),
        reply_identifier secret q c,
        eq-eqb (identifier_of q) (identifier_of q) refl,
        good_authenticator,
        good_mac,
      )
