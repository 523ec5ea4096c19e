-- A packet and its signatures, request or reply alike (document 01, "The packet"): a head of four bytes, the authenticator, attributes, and type 80 after them
-- where it is present. `base` is what both signatures are worked out over: zeros in a request, the request's authenticator in a reply.
-- Assumes nothing.
use Rattle.std.specs.Prelude.{Bool, cond, List, [], ◌∷◌, ◌++◌, ℕ, ◌+◌, ◌-◌, length}
use Rattle.packet_auth.specs.Signing.{zeros, authenticator, message_authenticator}

-- type 80 (length 18) with this value, where it is present
unfoldable pub mac_valued : Bool → List ℕ → List ℕ
mac_valued present mac = cond present (80 ∷ 18 ∷ mac) []

-- the packet with these values for authenticator and Message-Authenticator
unfoldable pub packet : List ℕ → List ℕ → Bool → List ℕ → List ℕ → List ℕ
packet head body present auth mac = head ++ auth ++ body ++ mac_valued present mac

unfoldable pub packet_length : List ℕ → Bool → ℕ
packet_length body present = 20 + length body + length (mac_valued present zeros)

-- the Message-Authenticator, worked out before the authenticator; its value ends the packet
unfoldable pub packet_mac : List ℕ → List ℕ → List ℕ → List ℕ → Bool → List ℕ
packet_mac secret base head body present =
    message_authenticator base (packet head body present base zeros) (packet_length body present) (packet_length body present - 16) secret

-- the authenticator, over the packet with its Message-Authenticator
unfoldable pub packet_auth : List ℕ → List ℕ → List ℕ → List ℕ → Bool → List ℕ
packet_auth secret base head body present =
    authenticator base (packet head body present base (packet_mac secret base head body present)) (packet_length body present) secret

-- the packet with both
unfoldable pub signed_packet : List ℕ → List ℕ → List ℕ → List ℕ → Bool → List ℕ
signed_packet secret base head body present = packet head body present (packet_auth secret base head body present) (packet_mac secret base head body present)
