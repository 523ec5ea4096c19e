-- A packet holds its signatures: the authenticator does not look at its own place, nor the Message-Authenticator at its own, so each worked out over the whole packet is what stands there.
-- Assumes nothing.
use mathlib.Core.Path.{◌≡◌, refl, sym, ap, ◌∙◌}
use mathlib.Core.Bool.{Bool, true}
use mathlib.Core.List.{List, [], ◌∷◌, ◌++◌}
use Prim.Native.Nat.{ℕ, ◌+◌, ◌-◌, ◌≤◌}
use native.Mathlib.Omega.{arith}
use lib.ListN.{length, take, length-append}
use lib.Seq.{take_at}
use Rattle.octet_numbers.specs.Runs.{write}
use Rattle.octet_numbers.proofs.Write.{write_end}
use Rattle.packet_auth.specs.Signing.{zeros, authenticator, message_authenticator}
use Rattle.packet_auth.proofs.Blanked.{value_ignored}
use Rattle.packet_auth.proofs.Messages.{Alike, same_authenticator, same_message_authenticator, length-zeros}
use Rattle.packet_write.specs.Packets.{packet, packet_length, packet_mac, packet_auth, signed_packet}
use Rattle.packet_write.proofs.Packets.{length-packet, length-packet_mac, length-packet_auth, ends_in}
use Rattle.packet_laws.proofs.Readback.{with_head, with_after}

module _ (secret base head body : List ℕ) (present : Bool) (four : length head ≡ 4) (sixteen : length base ≡ 16) where
  mac : List ℕ
  mac = packet_mac secret base head body present

  long_mac : length mac ≡ 16
  unfolding mac
  long_mac = length-packet_mac secret base head body present

  -- packets that differ in their authenticator are signed alike
  same_with : (auth : List ℕ) → length auth ≡ 16 → Alike (packet_length body present) (packet head body present auth mac) (packet head body present base mac)
  same_with auth la =
      record {
        head = with_head head body present auth mac four la long_mac ∙ sym (with_head head body present base mac four sixteen long_mac);
        attributes = with_after head body present auth mac four la long_mac ∙ sym (with_after head body present base mac four sixteen long_mac);
      }

  same_packet : Alike (packet_length body present) (signed_packet secret base head body present) (packet head body present base mac)
  unfolding signed_packet mac
  same_packet = same_with (packet_auth secret base head body present) (length-packet_auth secret base head body present)

  -- the authenticator
  pub packet-signed : authenticator base (signed_packet secret base head body present) (packet_length body present) secret ≡ packet_auth secret base head body present
  unfolding packet_auth mac
  packet-signed = same_authenticator _ _ _ same_packet base secret

  -- type 80: its value ends the packet
  module _ (h : present ≡ true) where
    x : List ℕ → List ℕ
    x auth = head ++ auth ++ body ++ (80 ∷ 18 ∷ [])

    length_x : (auth : List ℕ) → length auth ≡ 16 → length (x auth) + 16 ≡ packet_length body present
    unfolding x
    length_x auth la =
        let l = length-append (x auth) zeros in
        omega (arith, l, length-zeros, ap length (ends_in head body present auth zeros h), length-packet head body present auth zeros four la length-zeros)

    low_x : (auth : List ℕ) → length auth ≡ 16 → 20 ≤ length (x auth)
    unfolding x
    low_x auth la = simp length-append (omega arith)

    -- the value written over the zeros
    written : packet head body present base mac ≡ write (packet head body present base zeros) (packet_length body present - 16) mac
    unfolding x
    written =
        let n = packet_length body present in
        let lm = long_mac in
        let l : length (x base) ≡ n - 16 = omega (arith, length_x base sixteen) in
        let blank = packet head body present base zeros in
        let fits : n - 16 + length mac ≡ length blank = omega (arith, length_x base sixteen, length-packet head body present base zeros four sixteen length-zeros) in
        let front : take (n - 16) blank ≡ x base = ap (take (n - 16)) (ends_in head body present base zeros h) ∙ take_at (x base) zeros (n - 16) l in
        ends_in head body present base mac h ∙ sym (write_end (write blank (n - 16) mac) blank (n - 16) mac refl fits ∙ ap (λ (t : List ℕ). t ++ mac) front)

    -- the Message-Authenticator
    pub packet-maced : message_authenticator base (signed_packet secret base head body present) (packet_length body present) (packet_length body present - 16) secret ≡ packet_mac secret base head body present
    unfolding packet_mac mac
    packet-maced =
        let n = packet_length body present in
        let blank = packet head body present base zeros in
        let lb = length-packet head body present base zeros four sixteen length-zeros in
        let low : 20 ≤ n - 16 = omega (arith, length_x base sixteen, low_x base sixteen) in
        same_message_authenticator _ _ _ same_packet base (n - 16) secret
        ∙ ap (λ (r : List ℕ). message_authenticator base r n (n - 16) secret) written
        ∙ value_ignored base blank n (n - 16) mac secret (omega arith) sixteen low (omega arith) long_mac
