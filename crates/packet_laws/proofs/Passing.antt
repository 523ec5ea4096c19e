-- A packet that is signed, of attributes that fill its area and have no type 80: it meets neither D1 nor D3, its authenticator is right, and so is its type 80, the only one,
-- which ends it. Assumes nothing.
use mathlib.Core.Path.{◌≡◌, refl, ap, ◌∙◌}
use mathlib.Core.Bool.{Bool, true, false}
use mathlib.Core.List.{List, ◌∷◌, ◌++◌}
use Prim.Native.Nat.{ℕ, ◌+◌, ◌-◌, ◌≤◌}
use native.Mathlib.Omega.{arith}
use borrow.Author.Tests.{le-ltb, eq-eqb}
use lib.ListN.{length}
use Rattle.octet_numbers.specs.Numbers.{be_bytes}
use Rattle.octet_numbers.specs.Runs.{equal_bytes}
use Rattle.octet_numbers.proofs.Equality.{equal_refl}
use Rattle.attr_walk.specs.Attributes.{attributes, value_of, first_of, on_first, kind_is}
use Rattle.attr_walk.proofs.Searches.{only}
use Rattle.packet_auth.specs.Signing.{authenticator, message_authenticator}
use Rattle.packet_auth.proofs.Messages.{length-zeros}
use Rattle.packet_form.specs.Packet.{length_of, auth_of, area_of}
use Rattle.packet_form.specs.Discards.{bad_length, bad_attributes}
use Rattle.packet_mac.specs.Discards.{wrong_mac, bad_mac}
use Rattle.packet_write.specs.Packets.{mac_valued, packet_length, packet_mac, packet_auth, signed_packet}
use Rattle.packet_write.proofs.Packets.{length-signed, length-packet_mac, packet_low}
use Rattle.packet_laws.proofs.Plain.{Plain}
use Rattle.packet_laws.proofs.Trailing.{trailing, trailer, trailing_first, trailing_once, trailing_tiled, trailing_value}
use Rattle.packet_laws.proofs.Readback.{head_four, signed-length, signed_auth, signed_area}
use Rattle.packet_laws.proofs.Signatures.{packet-signed, packet-maced}

-- code k, identifier i, Length n
module _ (secret base body : List ℕ) (present : Bool) (k i n : ℕ) (plain : Plain body) (sixteen : length base ≡ 16) (is : n ≡ packet_length body present) (short : n ≤ 4096) where
  mac : List ℕ
  mac = packet_mac secret base (k ∷ i ∷ be_bytes 2 n) body present

  long_mac : length mac ≡ 16
  unfolding mac
  long_mac = length-packet_mac secret base (k ∷ i ∷ be_bytes 2 n) body present

  named : length_of (signed_packet secret base (k ∷ i ∷ be_bytes 2 n) body present) ≡ packet_length body present
  named = signed-length secret base body present k i n short ∙ is

  area : area_of (signed_packet secret base (k ∷ i ∷ be_bytes 2 n) body present) ≡ body ++ mac_valued present mac
  unfolding mac
  area = signed_area secret base body present k i n is short

  maced : present ≡ true → message_authenticator base (signed_packet secret base (k ∷ i ∷ be_bytes 2 n) body present) (packet_length body present) (packet_length body present - 16) secret ≡ mac
  unfolding mac
  maced h = packet-maced secret base (k ∷ i ∷ be_bytes 2 n) body present (head_four secret base body present k i n) sixteen h

  with_type : present ≡ true → packet_length body present ≡ 38 + length body
  unfolding packet_length mac_valued
  with_type h = rw h (omega (arith, length-zeros))

  pub packet_sized : bad_length (signed_packet secret base (k ∷ i ∷ be_bytes 2 n) body present) ≡ false
  unfolding bad_length
  packet_sized =
      let low = packet_low body present in
      rw (
        named,
        length-signed secret base (k ∷ i ∷ be_bytes 2 n) body present (head_four secret base body present k i n),
        le-ltb (packet_length body present) 20 low,
        le-ltb 4096 (packet_length body present) (omega arith),
        le-ltb (packet_length body present) (packet_length body present) (omega arith),
      )

  pub packet-tiled : bad_attributes (signed_packet secret base (k ∷ i ∷ be_bytes 2 n) body present) ≡ false
  unfolding bad_attributes
  packet-tiled = rw (area, trailing_tiled body mac plain long_mac present)

  pub packet_authentic : equal_bytes (auth_of (signed_packet secret base (k ∷ i ∷ be_bytes 2 n) body present))
      (authenticator base (signed_packet secret base (k ∷ i ∷ be_bytes 2 n) body present) (length_of (signed_packet secret base (k ∷ i ∷ be_bytes 2 n) body present)) secret) ≡ true
  packet_authentic =
      rw (named, signed_auth secret base body present k i n, packet-signed secret base (k ∷ i ∷ be_bytes 2 n) body present (head_four secret base body present k i n) sixteen)
      (equal_refl (packet_auth secret base (k ∷ i ∷ be_bytes 2 n) body present))

  -- type 80 where it is present
  wrong : present ≡ true → wrong_mac base secret (signed_packet secret base (k ∷ i ∷ be_bytes 2 n) body present) (trailing body mac) ≡ false
  unfolding wrong_mac
  wrong h =
      let size : length mac + 2 ≡ 18 = omega (arith, long_mac) in
      let at : 22 + (length body + 0) ≡ packet_length body present - 16 = omega (arith, with_type h) in
      let value : value_of (area_of (signed_packet secret base (k ∷ i ∷ be_bytes 2 n) body present)) (trailing body mac) ≡ mac =
      ap (λ (s : List ℕ). value_of s (trailing body mac)) (area ∙ ap (λ (b : Bool). body ++ mac_valued b mac) h) ∙ trailing_value body mac plain long_mac in
      let own : message_authenticator base (signed_packet secret base (k ∷ i ∷ be_bytes 2 n) body present) (packet_length body present) (packet_length body present - 16) secret ≡ mac =
      maced h in
      rw (value, named, at, own, eq-eqb (length mac + 2) 18 size, equal_refl mac)

  right : (b : Bool) → present ≡ b
      → on_first (wrong_mac base secret (signed_packet secret base (k ∷ i ∷ be_bytes 2 n) body present)) (first_of (kind_is 80) (trailer b body mac)) ≡ false
  right true h = wrong h
  right false h = refl

  pub packet_mac_lem : bad_mac base secret (signed_packet secret base (k ∷ i ∷ be_bytes 2 n) body present) ≡ false
  unfolding bad_mac
  packet_mac_lem =
      rw (area, le-ltb _ _ (trailing_once body mac plain long_mac present))
      (only (kind_is 80) (wrong_mac base secret (signed_packet secret base (k ∷ i ∷ be_bytes 2 n) body present)) (attributes (body ++ mac_valued present mac)) (trailing_once body mac plain long_mac present)
      ∙ ap (on_first (wrong_mac base secret (signed_packet secret base (k ∷ i ∷ be_bytes 2 n) body present))) (trailing_first body mac plain long_mac present)
      ∙ right present refl)
