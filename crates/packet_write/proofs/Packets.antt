-- A packet is as long with any signatures of 16 bytes as with zeros. Assumes nothing.
use mathlib.Core.Path.{◌≡◌, refl, sym, ap, ◌∙◌}
use mathlib.Core.Bool.{Bool, true, false, cond}
use mathlib.Core.List.{List, [], ◌∷◌, ◌++◌, append_assoc}
use Prim.Native.Nat.{ℕ, suc, ◌≤◌}
use native.Mathlib.Omega.{arith}
use lib.ListN.{length, length-append}
use Rattle.packet_auth.specs.Signing.{zeros}
use Rattle.packet_auth.proofs.Messages.{length-zeros, length-authenticator, length-message_authenticator}
use Rattle.packet_write.specs.Packets.{mac_valued, packet, packet_length, packet_mac, packet_auth, signed_packet}

valued_case : (b : Bool) (v w : List ℕ) → length v ≡ length w → length (cond b (80 ∷ 18 ∷ v) []) ≡ length (cond b (80 ∷ 18 ∷ w) [])
valued_case true v w e = ap (λ (k : ℕ). suc (suc k)) e
valued_case false v w e = refl

length_valued : (present : Bool) (mac : List ℕ) → length mac ≡ 16 → length (mac_valued present mac) ≡ length (mac_valued present zeros)
unfolding mac_valued
length_valued present mac e = valued_case present mac zeros (e ∙ sym length-zeros)

pub length-packet : (head body : List ℕ) (present : Bool) (auth mac : List ℕ) → length head ≡ 4 → length auth ≡ 16 → length mac ≡ 16
    → length (packet head body present auth mac) ≡ packet_length body present
unfolding packet packet_length
length-packet head body present auth mac h e g = simp length-append (omega (arith, length_valued present mac g))

module _ (secret base head body : List ℕ) (present : Bool) where
  pub length-packet_mac : length (packet_mac secret base head body present) ≡ 16
  unfolding packet_mac
  length-packet_mac = length-message_authenticator _ _ _ _ _

  pub length-packet_auth : length (packet_auth secret base head body present) ≡ 16
  unfolding packet_auth
  length-packet_auth = length-authenticator _ _ _ _

  pub length-signed : length head ≡ 4 → length (signed_packet secret base head body present) ≡ packet_length body present
  unfolding signed_packet
  length-signed four = length-packet head body present _ _ four length-packet_auth length-packet_mac

pub packet_low : (body : List ℕ) (present : Bool) → 20 ≤ packet_length body present
unfolding packet_length
packet_low body present = omega arith

-- the value ends the packet
pub ends_in : (head body : List ℕ) (present : Bool) (auth mac : List ℕ) → present ≡ true → packet head body present auth mac ≡ (head ++ auth ++ body ++ (80 ∷ 18 ∷ [])) ++ mac
unfolding packet mac_valued
ends_in head body present auth mac h = rw h (sym (append_assoc (head ++ auth ++ body) (80 ∷ 18 ∷ []) mac))

pub no_value : (head body : List ℕ) (present : Bool) (auth mac mac' : List ℕ) → present ≡ false → packet head body present auth mac ≡ packet head body present auth mac'
unfolding packet mac_valued
no_value head body present auth mac mac' h = rw h
