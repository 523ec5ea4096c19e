-- Room for the Message-Authenticator at the end of a packet, and the Message-Authenticator in it.
-- For inner contracts and proofs: the packet with its signatures is in packet_write/specs/Packets.antt.
-- Assumes nothing.
use Rattle.std.specs.Prelude.{Bool, cond, List, [], ◌∷◌, ℕ, ◌-◌}
use Rattle.octet_numbers.specs.Runs.{write}
use Rattle.packet_auth.specs.Signing.{zeros, message_authenticator}

-- type 80 with zeros for its value
unfoldable pub mac_room : Bool → List ℕ
mac_room present = cond present (80 ∷ 18 ∷ zeros) []

-- a packet of Length n with its Message-Authenticator, whose value ends it, if it has one
unfoldable pub with_mac : Bool → List ℕ → List ℕ → ℕ → List ℕ → List ℕ
with_mac present auth t n secret = cond present (write t (n - 16) (message_authenticator auth t n (n - 16) secret)) t
