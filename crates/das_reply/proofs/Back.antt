-- The reply read back, part by part: it is a packet, so each is found where a packet has it.
-- Assumes nothing.
use mathlib.Core.Path.{◌≡◌, refl}
use mathlib.Core.Bool.{cond}
use mathlib.Core.List.{List, ◌++◌}
use Prim.Native.Nat.{ℕ, ◌+◌, ◌≤◌}
use Rattle.std.specs.Prelude.{Option, is_some}
use Rattle.rule_causes.specs.declared.cause.Cause.{Cause}
use Rattle.packet_form.specs.Packet.{code_of, identifier_of, length_of, auth_of, area_of}
use Rattle.das_reply_parts.specs.Reply.{body_of, maced, reply_length, head_of, reply_mac, reply_auth, reply_of}
use Rattle.packet_write.specs.Packets.{mac_valued, packet, packet_length, signed_packet}
use Rattle.packet_laws.proofs.Readback.{signed_code, signed_identifier, signed-length, signed_auth, signed_area}

module _ (secret p : List ℕ) (c : Option Cause) where
  pub reply_is : reply_of secret p c ≡ signed_packet secret (auth_of p) (head_of p c) (body_of p c) (maced p)
  unfolding reply_of
  reply_is = refl

  pub length_is : reply_length p c ≡ packet_length (body_of p c) (maced p)
  unfolding reply_length
  length_is = refl

  pub reply_parts : reply_of secret p c ≡ head_of p c ++ reply_auth secret p c ++ body_of p c ++ mac_valued (maced p) (reply_mac secret p c)
  unfolding reply_of reply_auth reply_mac signed_packet packet
  reply_parts = refl

  pub reply_code : code_of (reply_of secret p c) ≡ code_of p + cond (is_some c) 2 1
  unfolding head_of
  reply_code = rw reply_is (signed_code secret (auth_of p) (body_of p c) (maced p) _ (identifier_of p) (reply_length p c))

  pub reply_identifier : identifier_of (reply_of secret p c) ≡ identifier_of p
  unfolding head_of
  reply_identifier = rw reply_is (signed_identifier secret (auth_of p) (body_of p c) (maced p) _ (identifier_of p) (reply_length p c))

  pub reply_length_lem : reply_length p c ≤ 4096 → length_of (reply_of secret p c) ≡ reply_length p c
  unfolding head_of
  reply_length_lem h = rw reply_is (signed-length secret (auth_of p) (body_of p c) (maced p) _ (identifier_of p) (reply_length p c) h)

  pub reply_auth_lem : auth_of (reply_of secret p c) ≡ reply_auth secret p c
  unfolding head_of reply_auth reply_of
  reply_auth_lem = signed_auth secret (auth_of p) (body_of p c) (maced p) _ (identifier_of p) (reply_length p c)

  pub reply_area : reply_length p c ≤ 4096 → area_of (reply_of secret p c) ≡ body_of p c ++ mac_valued (maced p) (reply_mac secret p c)
  unfolding head_of reply_mac reply_of
  reply_area h = signed_area secret (auth_of p) (body_of p c) (maced p) _ (identifier_of p) (reply_length p c) length_is h
