-- How long the parts of a reply are: the head 4, the authenticators 16, and type 80 as long with any value of 16 bytes as with zeros.
-- Assumes nothing.
use mathlib.Core.Path.{◌≡◌, ap}
use mathlib.Core.List.{List}
use Prim.Native.Nat.{ℕ, suc}
use native.Mathlib.Omega.{arith}
use lib.ListN.{length}
use Rattle.octet_numbers.proofs.Numbers.{length-be_bytes}
use Rattle.octet_numbers.proofs.Part.{length_part}
use Rattle.rule_causes.specs.declared.cause.Cause.{Cause}
use Rattle.std.specs.Prelude.{Option}
use Rattle.packet_form.specs.Packet.{auth_of}
use Rattle.packet_form.specs.Discards.{Sized}
use Rattle.das_reply_parts.specs.Reply.{body_of, maced, reply_length, head_of, reply_mac, reply_auth, reply_of}
use Rattle.packet_write.proofs.Packets.{length-packet_mac, length-packet_auth, length-signed}

pub length_auth : (p : List ℕ) (n : ℕ) → Sized p n → length (auth_of p) ≡ 16
length_auth p n z = length_part 4 16 p (omega (arith, z.low, z.given))

pub length_head : (p : List ℕ) (c : Option Cause) → length (head_of p c) ≡ 4
unfolding head_of
length_head p c = ap (λ (k : ℕ). suc (suc k)) (length-be_bytes 2 (reply_length p c))

module _ (secret p : List ℕ) (c : Option Cause) where
  pub length-reply_mac : length (reply_mac secret p c) ≡ 16
  unfolding reply_mac
  length-reply_mac = length-packet_mac secret (auth_of p) (head_of p c) (body_of p c) (maced p)

  pub length-reply_auth : length (reply_auth secret p c) ≡ 16
  unfolding reply_auth
  length-reply_auth = length-packet_auth secret (auth_of p) (head_of p c) (body_of p c) (maced p)

  pub length-reply_of : length (reply_of secret p c) ≡ reply_length p c
  unfolding reply_of reply_length
  length-reply_of = length-signed secret (auth_of p) (head_of p c) (body_of p c) (maced p) (length_head p c)
