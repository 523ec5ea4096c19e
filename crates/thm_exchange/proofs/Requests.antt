-- A request that is not refused fits the gate: R12 leaves a code that D2 takes, R13 attributes that fill their area, have no type 80 and leave room
-- for one; and it is a signed packet. So it meets none of D1 to D5. Assumes nothing.
use mathlib.Core.Path.{◌≡◌, refl, sym}
use mathlib.Core.Bool.{Bool, true, false, not, ◌||◌, false≢true}
use mathlib.Core.List.{List, ◌∷◌}
use Prim.Native.Nat.{ℕ, ◌≤◌}
use native.Mathlib.Omega.{arith}
use Rattle.std.specs.Prelude.{None}
use Rattle.octet_numbers.specs.Numbers.{be_bytes}
use Rattle.attr_walk.specs.Attributes.{attributes, tiled, any, kind_is}
use Rattle.packet_auth.specs.Signing.{zeros}
use Rattle.packet_auth.proofs.Messages.{length-zeros}
use Rattle.packet_form.specs.Discards.{bad_code, form_of}
use Rattle.packet_mac.specs.Discards.{bad_mac}
use Rattle.rule_verdict.specs.Discards.{signed_by}
use Rattle.packet_write.specs.Rooms.{mac_room}
use Rattle.packet_write.specs.Packets.{mac_valued, packet_length, signed_packet}
use Rattle.packet_laws.proofs.Plain.{Plain}
use Rattle.packet_laws.proofs.Readback.{signed_code}
use Rattle.packet_laws.proofs.Passing.{packet_sized, packet-tiled, packet_authentic, packet_mac_lem}
use Rattle.dac_write.specs.Writer.{Draft, bad_given, write_refusal, request_length, request_head, request_of}
use Rattle.dac_write.proofs.Refusals.{taken}
use Rattle.dac_write.proofs.Requesting.{given_short}

-- a request is a packet, signed over zeros
abbrev pub signed_request : List ℕ → Draft → List ℕ
signed_request secret d = signed_packet secret zeros (d.code ∷ d.identifier ∷ be_bytes 2 (request_length d)) d.given d.add

pub request_is : (secret : List ℕ) (d : Draft) → request_of secret d ≡ signed_request secret d
unfolding request_head request_of
request_is secret d = refl

pub length_is : (d : Draft) → request_length d ≡ packet_length d.given d.add
unfolding request_length
length_is d = refl

-- what R13 leaves
plain_case : (s : List ℕ) (a b c : Bool) → tiled s ≡ a → any (kind_is 80) (attributes s) ≡ b → (not a || (b || c)) ≡ false → Plain s
plain_case s true false c ea eb h = record { tiles = ea; none = eb }
plain_case s false b c ea eb h = absurd (false≢true (sym h))
plain_case s true true c ea eb h = absurd (false≢true (sym h))

pub plain_given : (d : Draft) → bad_given d ≡ false → Plain d.given
unfolding bad_given
plain_given d h = plain_case d.given _ _ _ refl refl h

pub request_short : (d : Draft) → bad_given d ≡ false → request_length d ≤ 4096
unfolding request_length packet_length mac_valued mac_room
request_short d h = omega (arith, given_short d.given d.code d.identifier d.add h)

module _ (secret out : List ℕ) (d : Draft) (accepted : write_refusal secret out d ≡ None) where
  given : bad_given d ≡ false
  given = (taken secret out d accepted).given

  pub written_short : request_length d ≤ 4096
  written_short = request_short d given

  -- D1 to D3
  pub written_form : form_of (request_of secret d) ≡ None
  unfolding form_of bad_code
  written_form =
      rw (
        request_is secret d,
        packet_sized secret zeros d.given d.add d.code d.identifier (request_length d) (plain_given d given) length-zeros (length_is d)
            (request_short d given),
        signed_code secret zeros d.given d.add d.code d.identifier (request_length d),
        (taken secret out d accepted).code,
        packet-tiled secret zeros d.given d.add d.code d.identifier (request_length d) (plain_given d given) length-zeros (length_is d)
            (request_short d given),
      )

  -- D4
  pub written-signed : signed_by secret (request_of secret d) ≡ true
  unfolding signed_by
  written-signed =
      rw (request_is secret d)
      (packet_authentic secret zeros d.given d.add d.code d.identifier (request_length d) (plain_given d given) length-zeros (length_is d)
      (request_short d given))

  -- D5
  pub written-maced : bad_mac zeros secret (request_of secret d) ≡ false
  written-maced =
      rw (request_is secret d)
      (packet_mac_lem secret zeros d.given d.add d.code d.identifier (request_length d) (plain_given d given) length-zeros (length_is d)
      (request_short d given))
