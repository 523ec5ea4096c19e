-- The output holds the request, with the bytes that were there after it: they are after its Length, and change nothing. Assumes nothing.
use mathlib.Core.Path.{◌≡◌, sym, ap, ◌∙◌}
use mathlib.Core.Bool.{true, false}
use mathlib.Core.List.{List, ◌∷◌}
use Prim.Native.Nat.{ℕ, ◌≤◌}
use native.Mathlib.Omega.{arith}
use lib.ListN.{length}
use Rattle.std.specs.Prelude.{None}
use Rattle.octet_numbers.specs.Numbers.{be_bytes}
use Rattle.octet_numbers.specs.Runs.{part}
use Rattle.octet_numbers.proofs.Part.{part_whole, part-written}
use Rattle.octet_numbers.proofs.Write.{length-write}
use Rattle.packet_auth.specs.Signing.{zeros}
use Rattle.packet_form.specs.Packet.{length_of}
use Rattle.packet_form.specs.Discards.{form_of, Sized}
use Rattle.packet_mac.specs.Discards.{bad_mac}
use Rattle.rule_verdict.specs.Discards.{signed_by}
use Rattle.packet_write.proofs.Packets.{length-signed, packet_low}
use Rattle.packet_laws.proofs.Readback.{head_four, signed-length}
use Rattle.packet_laws.proofs.SameBytes.{SamePacket, same_packet, same_mac}
use Rattle.dac_write.specs.Writer.{Draft, bad_given, write_refusal, request_length, request_of, write_output}
use Rattle.dac_write.proofs.Refusals.{taken}
use Rattle.thm_exchange.proofs.Padded.{same_signed}
use Rattle.thm_exchange.proofs.Requests.{request_is, length_is, request_short, written_form, written-signed, written-maced}

pub length_request : (secret : List ℕ) (d : Draft) → length (request_of secret d) ≡ request_length d
length_request secret d =
    ap length (request_is secret d)
    ∙ length-signed secret zeros (d.code ∷ d.identifier ∷ be_bytes 2 (request_length d)) d.given d.add
    (head_four secret zeros d.given d.add d.code d.identifier (request_length d))
    ∙ sym (length_is d)

module _ (secret out : List ℕ) (d : Draft) (accepted : write_refusal secret out d ≡ None) where
  good : bad_given d ≡ false
  good = (taken secret out d accepted).given

  pub sized : Sized (request_of secret d) (request_length d)
  sized =
      let l = length_request secret d in
      record {
        is =
            sym (ap length_of (request_is secret d) ∙ signed-length secret zeros d.given d.add d.code d.identifier (request_length d)
            (request_short d good));
        low = rw (length_is d) (packet_low d.given d.add);
        high = request_short d good;
        given = omega arith;
      }

  more : request_length d ≤ length (write_output secret out d)
  unfolding write_output
  more = rw (accepted, length-write out 0 (request_of secret d)) (omega (arith, request_short d good, (taken secret out d accepted).room))

  first : part 0 (request_length d) (write_output secret out d) ≡ part 0 (request_length d) (request_of secret d)
  unfolding write_output
  first =
      let l = length_request secret d in
      rw (accepted, ← l)
      (part-written out 0 (request_of secret d) (omega (arith, request_short d good, (taken secret out d accepted).room))
      ∙ sym (part_whole (request_of secret d)))

  same : SamePacket (request_of secret d) (write_output secret out d)
  unfolding part
  same = same_packet (request_of secret d) (write_output secret out d) (request_length d) sized more first

  pub output_form : form_of (write_output secret out d) ≡ None
  output_form = same.form ∙ written_form secret out d accepted

  pub output-signed : signed_by secret (write_output secret out d) ≡ true
  output-signed = same_signed (request_of secret d) (write_output secret out d) same secret ∙ written-signed secret out d accepted

  pub output-maced : bad_mac zeros secret (write_output secret out d) ≡ false
  output-maced = same_mac (request_of secret d) (write_output secret out d) same zeros secret ∙ written-maced secret out d accepted
