-- A packet in the buffer, signature by signature: head and attributes are there, then each signature is written in its place. A signature looks at the first Length bytes
-- alone, and those are the packet so far. Assumes nothing.
use mathlib.Core.Path.{◌≡◌, sym, ap, ◌∙◌}
use mathlib.Core.Bool.{Bool, true, false}
use mathlib.Core.List.{List, [], ◌∷◌, ◌++◌, append_assoc}
use Prim.Native.Nat.{ℕ, ◌+◌, ◌-◌, ◌≤◌}
use native.Mathlib.Omega.{arith}
use lib.ListN.{length, take, length-append}
use lib.Seq.{take_all}
use Rattle.octet_numbers.specs.Runs.{write}
use Rattle.octet_numbers.proofs.Write.{take-write}
use Rattle.packet_auth.specs.Signing.{zeros, authenticator, message_authenticator}
use Rattle.packet_auth.proofs.Messages.{Alike, same_first, same_authenticator, same_message_authenticator, length-zeros}
use Rattle.packet_write.specs.Rooms.{with_mac}
use Rattle.packet_write.proofs.Writes.{write_last, write_middle}
use Rattle.packet_write.specs.Packets.{mac_valued, packet, packet_length, packet_mac, packet_auth, signed_packet}
use Rattle.packet_write.proofs.Packets.{length-packet, length-packet_mac, length-packet_auth, packet_low, ends_in, no_value}

-- a packet at the start of a buffer is signed as by itself
alike : (l m : List ℕ) (n : ℕ) → length m ≡ n → n ≤ length l → 4 ≤ n → Alike n (write l 0 m) m
alike l m n e h k =
    let fit : 0 + length m ≤ length l = omega arith in
    let a : 0 + length m ≡ n = omega arith in
    let b : take n (write l 0 m) ≡ m = ap (λ (i : ℕ). take i (write l 0 m)) (sym a) ∙ take-write l 0 m fit in
    same_first n (write l 0 m) m k (b ∙ sym (take_all n m (omega arith)))

module _ (secret base head body l : List ℕ) (present : Bool) (four : length head ≡ 4) (sixteen : length base ≡ 16) (fits : packet_length body present ≤ length l) where
  e : ℕ
  e = packet_length body present

  mac : List ℕ
  mac = packet_mac secret base head body present

  auth : List ℕ
  auth = packet_auth secret base head body present

  long_mac : length mac ≡ 16
  unfolding mac
  long_mac = length-packet_mac secret base head body present

  -- with zeros in the Message-Authenticator's place, and with its value
  blank : List ℕ
  blank = packet head body present base zeros

  full : List ℕ
  full = packet head body present base mac

  length_blank : length blank ≡ e
  unfolding blank e
  length_blank = length-packet head body present base zeros four sixteen length-zeros

  length_full : length full ≡ e
  unfolding full e
  length_full = length-packet head body present base mac four sixteen long_mac

  mac_right : message_authenticator base (write l 0 blank) e (e - 16) secret ≡ mac
  unfolding mac packet_mac e blank
  mac_right =
      let low = packet_low body present in
      same_message_authenticator e (write l 0 blank) blank (alike l blank e length_blank fits (omega arith)) base (e - 16) secret

  auth_right : authenticator base (write l 0 full) e secret ≡ auth
  unfolding auth packet_auth e full mac
  auth_right =
      let low = packet_low body present in
      same_authenticator e (write l 0 full) full (alike l full e length_full fits (omega arith)) base secret

  -- the Message-Authenticator in its place
  maced : (b : Bool) → present ≡ b → with_mac b base (write l 0 blank) e secret ≡ write l 0 full
  unfolding with_mac blank full
  maced true h =
      let x = head ++ base ++ body ++ (80 ∷ 18 ∷ []) in
      let b : blank ≡ x ++ zeros = ends_in head body present base zeros h in
      let f : full ≡ x ++ mac = ends_in head body present base mac h in
      let at : e - 16 ≡ 0 + length x = omega (arith, length-zeros, length_blank, ap length b, length-append x zeros) in
      ap (write (write l 0 blank) (e - 16)) mac_right
      ∙ ap (λ (t : List ℕ). write (write l 0 t) (e - 16) mac) b
      ∙ write_last l 0 (e - 16) x zeros mac at (length-zeros ∙ sym long_mac)
      ∙ ap (write l 0) (sym f)
  maced false h = ap (write l 0) (no_value head body present base zeros mac h)

  -- the authenticator in its place
  signed : write (write l 0 full) 4 auth ≡ write l 0 (signed_packet secret base head body present)
  unfolding full signed_packet packet auth mac
  signed =
      let b : length auth ≡ 16 = length-packet_auth secret base head body present in
      let at : 4 ≡ 0 + length head = omega arith in
      rw (append_assoc (head ++ base), append_assoc (head ++ auth))
      (write_middle l 0 4 head base auth (body ++ mac_valued present mac) at (sixteen ∙ sym b))

  -- t is the buffer with head and attributes, b says whether type 80 is there
  pub sealed : (b : Bool) (t t₁ t₂ : List ℕ) → b ≡ present → t ≡ write l 0 (packet head body present base zeros)
      → t₁ ≡ with_mac b base t (packet_length body present) secret → t₂ ≡ write t₁ 4 (authenticator base t₁ (packet_length body present) secret)
      → t₂ ≡ write l 0 (signed_packet secret base head body present)
  unfolding blank full e
  sealed b t t₁ t₂ h i j k =
      let one : t₁ ≡ write l 0 full = j ∙ ap (λ (x : List ℕ). with_mac b base x e secret) i ∙ maced b (sym h) in
      k ∙ ap (λ (x : List ℕ). write x 4 (authenticator base x e secret)) one ∙ ap (write (write l 0 full) 4) auth_right ∙ signed
