-- The reply holds its authenticator, as every packet does that is signed.
-- Assumes nothing.
use mathlib.Core.Path.{◌≡◌, sym, ◌∙◌}
use mathlib.Core.List.{List}
use Prim.Native.Nat.{ℕ}
use Rattle.packet_auth.specs.Signing.{authenticator}
use Rattle.std.specs.Prelude.{Option}
use Rattle.rule_causes.specs.declared.cause.Cause.{Cause}
use Rattle.packet_form.specs.Packet.{auth_of}
use Rattle.packet_form.specs.Discards.{Sized}
use Rattle.das_reply_parts.specs.Reply.{body_of, maced, reply_length, head_of, reply_mac, reply_auth, reply_of}
use Rattle.das_reply_parts.proofs.Lengths.{length_auth, length_head}
use Rattle.packet_laws.proofs.Signatures.{packet-signed}
use Rattle.das_reply.proofs.Back.{reply_auth_lem}

module _ (secret p : List ℕ) (n : ℕ) (c : Option Cause) (sized : Sized p n) where
  right_auth : authenticator (auth_of p) (reply_of secret p c) (reply_length p c) secret ≡ reply_auth secret p c
  unfolding reply_length reply_mac reply_auth reply_of
  right_auth = packet-signed secret (auth_of p) (head_of p c) (body_of p c) (maced p) (length_head p c) (length_auth p n sized)

  -- the response authenticator
  pub reply_signed : authenticator (auth_of p) (reply_of secret p c) (reply_length p c) secret ≡ auth_of (reply_of secret p c)
  reply_signed = right_auth ∙ sym (reply_auth_lem secret p c)
