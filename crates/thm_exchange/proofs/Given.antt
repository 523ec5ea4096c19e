-- A request reads back as given: its attributes are those given, each at its place, and after them type 80 where it was to be added, whose value is
-- the Message-Authenticator.
-- Assumes nothing.
use mathlib.Core.Path.{◌≡◌, refl, sym, ap, ◌∙◌}
use mathlib.Core.Bool.{Bool, true, false, cond}
use mathlib.Core.List.{List, [], ◌∷◌, ◌++◌}
use Prim.Native.Nat.{ℕ, ◌+◌}
use native.Mathlib.Nat.{add-zero}
use native.Mathlib.Omega.{arith}
use lib.ListN.{length}
use Rattle.std.specs.Prelude.{None}
use Rattle.attr_walk.specs.declared.Attribute.{Attribute}
use Rattle.attr_walk.specs.Attributes.{attributes, value_of}
use Rattle.packet_auth.specs.Signing.{zeros}
use Rattle.packet_form.specs.Packet.{area_of}
use Rattle.packet_write.specs.Packets.{mac_valued, packet_mac}
use Rattle.packet_write.proofs.Packets.{length-packet_mac}
use Rattle.packet_laws.proofs.Readback.{signed_area}
use Rattle.packet_laws.proofs.Trailing.{trailing, trailer, trailing_attributes, trailing_value}
use Rattle.dac_write.specs.Writer.{Draft, bad_given, write_refusal, request_length, request_head, request_of}
use Rattle.dac_write.proofs.Refusals.{taken}
use Rattle.thm_exchange.proofs.Requests.{request_is, length_is, plain_given, request_short}

-- type 80 of length 18, after the attributes given
abbrev pub added : Draft → Attribute
added d = record { kind = 80; at = length d.given; size = 18 }

-- its value
abbrev pub request_mac : List ℕ → Draft → List ℕ
request_mac secret d = packet_mac secret zeros (request_head d) d.given d.add

length_request_mac : (secret : List ℕ) (d : Draft) → length (request_mac secret d) ≡ 16
length_request_mac secret d = length-packet_mac secret zeros (request_head d) d.given d.add

added_is : (d : Draft) (mac : List ℕ) → length mac ≡ 16 → trailing d.given mac ≡ added d
added_is d mac h = let e : length mac + 2 ≡ 18 = omega arith in rw (e, add-zero)

trailer_is : (b : Bool) (d : Draft) (mac : List ℕ) → length mac ≡ 16 → trailer b d.given mac ≡ cond b (added d ∷ []) []
trailer_is true d mac h = ap (λ (a : Attribute). a ∷ []) (added_is d mac h)
trailer_is false d mac h = refl

module _ (secret out : List ℕ) (d : Draft) (accepted : write_refusal secret out d ≡ None) where
  given : bad_given d ≡ false
  given = (taken secret out d accepted).given

  pub written_area : area_of (request_of secret d) ≡ d.given ++ mac_valued d.add (request_mac secret d)
  unfolding request_head
  written_area =
      rw (request_is secret d) (signed_area secret zeros d.given d.add d.code d.identifier (request_length d) (length_is d) (request_short d given))

  pub written-attributes : attributes (area_of (request_of secret d)) ≡ attributes d.given ++ cond d.add (added d ∷ []) []
  written-attributes =
      let mac = request_mac secret d in
      let long = length_request_mac secret d in
      ap attributes written_area
      ∙ trailing_attributes d.given mac (plain_given d given) long d.add
      ∙ ap (λ (l : List Attribute). attributes d.given ++ l) (trailer_is d.add d mac long)

  pub written_value : d.add ≡ true → value_of (area_of (request_of secret d)) (added d) ≡ request_mac secret d
  written_value h =
      let mac = request_mac secret d in
      let long = length_request_mac secret d in
      ap (λ (s : List ℕ). value_of s (added d)) (written_area ∙ ap (λ (s : List ℕ). d.given ++ s) (ap (λ (b : Bool). mac_valued b mac) h))
      ∙ ap (value_of (d.given ++ mac_valued true mac)) (sym (added_is d mac long))
      ∙ trailing_value d.given mac (plain_given d given) long
