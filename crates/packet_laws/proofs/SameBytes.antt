-- Two packets with the same first Length bytes are the same packet to every rule: Length, code, identifier, authenticator and attributes all lie
-- there, and the rules look at nothing else. So where one of the two does not meet D1, they meet the same of D1 to D3, and the signatures worked out
-- over them are the same.
-- Assumes nothing.
use mathlib.Core.Path.{◌≡◌, sym, ap, ◌∙◌}
use mathlib.Core.List.{List}
use Prim.Native.Nat.{ℕ, ◌+◌, ◌-◌, ◌≤◌, ◌<◌}
use native.Mathlib.Nat.{zero-add}
use native.Mathlib.Omega.{arith}
use lib.ListN.{length, take, drop, get_or}
use lib.Seq.{get_or-take}
use Rattle.octet_numbers.specs.Runs.{part}
use Rattle.octet_numbers.specs.Numbers.{be}
use Rattle.octet_numbers.proofs.Part.{part-part}
use Rattle.packet_auth.specs.Signing.{authenticator, message_authenticator}
use Rattle.packet_auth.proofs.Messages.{Alike, same_first, same_authenticator, same_with_auth}
use Rattle.packet_form.specs.Packet.{code_of, identifier_of, length_of, auth_of, area_of}
use Rattle.packet_form.specs.Discards.{bad_code, bad_attributes, form_of, Sized}
use Rattle.packet_form.proofs.Forms.{sized_good}
use Rattle.packet_mac.specs.Discards.{wrong_mac, bad_mac}

-- q is the packet p, but for what follows its Length bytes
pub record SamePacket (p q : List ℕ) : Type 0 where
  pub code : code_of q ≡ code_of p
  pub identifier : identifier_of q ≡ identifier_of p
  pub long : length_of q ≡ length_of p
  pub auth : auth_of q ≡ auth_of p
  pub area : area_of q ≡ area_of p
  pub alike : Alike (length_of p) q p
  pub form : form_of q ≡ form_of p

-- its signatures, over any 16 bytes
module _ (p q : List ℕ) (s : SamePacket p q) (base secret : List ℕ) where
  pub same_signature : authenticator base q (length_of q) secret ≡ authenticator base p (length_of p) secret
  same_signature = rw s.long (same_authenticator (length_of p) q p s.alike base secret)

  pub same_mac : bad_mac base secret q ≡ bad_mac base secret p
  unfolding bad_mac wrong_mac message_authenticator
  same_mac = rw (s.area, s.long, same_with_auth (length_of p) q p s.alike base)

-- the first n bytes decide each byte and each part of them
part-take : (i m n : ℕ) (l : List ℕ) → i + m ≤ n → part i m (take n l) ≡ part i m l
unfolding part
part-take i m n l h = part-part i m 0 n l h ∙ ap (λ (k : ℕ). take m (drop k l)) (zero-add i)

module _ (n : ℕ) (p q : List ℕ) (same : take n q ≡ take n p) where
  same_byte : (i : ℕ) → i < n → get_or q i 0 ≡ get_or p i 0
  same_byte i h = sym (get_or-take n q i 0 h) ∙ ap (λ (l : List ℕ). get_or l i 0) same ∙ get_or-take n p i 0 h

  same_part : (i m : ℕ) → i + m ≤ n → part i m q ≡ part i m p
  same_part i m h = sym (part-take i m n q h) ∙ ap (part i m) same ∙ part-take i m n p h

  same_number : 20 ≤ n → be 2 2 q ≡ be 2 2 p
  unfolding be
  same_number h = rw (same_byte 2 (omega arith), same_byte 3 (omega arith))

-- n is the Length of p, which does not meet D1, and q begins with p's first n bytes
module _ (p q : List ℕ) (n : ℕ) (sized : Sized p n) (more : n ≤ length q) (same : take n q ≡ take n p) where
  long_is : length_of q ≡ length_of p
  long_is = same_number n p q same sized.low

  area_is : area_of q ≡ area_of p
  area_is = rw (long_is, ← sized.is) (same_part n p q same 20 (n - 20) (omega (arith, sized.low)))

  code_is : code_of q ≡ code_of p
  code_is = same_byte n p q same 0 (omega (arith, sized.low))

  pub same_sized : Sized q n
  same_sized = record { is = sized.is ∙ sym long_is; low = sized.low; high = sized.high; given = more }

  form_is : form_of q ≡ form_of p
  unfolding form_of bad_code bad_attributes
  form_is = rw (sized_good q n same_sized, sized_good p n sized, area_is, code_is)

  pub same_packet : SamePacket p q
  same_packet =
      record {
        code = code_is;
        identifier = same_byte n p q same 1 (omega (arith, sized.low));
        long = long_is;
        auth = same_part n p q same 4 16 (omega (arith, sized.low));
        area = area_is;
        alike = rw (← sized.is) (same_first n q p (omega (arith, sized.low)) same);
        form = form_is;
      }
