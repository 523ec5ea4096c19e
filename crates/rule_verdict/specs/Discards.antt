-- D4 of document 01's "Silent discards, first that applies".
-- Assumes nothing.
use Rattle.std.specs.Prelude.{Bool, List, ℕ}
use Rattle.octet_numbers.specs.Runs.{equal_bytes}
use Rattle.packet_form.specs.Packet.{length_of, auth_of}
use Rattle.packet_auth.specs.Signing.{zeros, authenticator}

-- D4 does not apply: the authenticator in the packet is the one that the secret gives
unfoldable pub signed_by : List ℕ → List ℕ → Bool
signed_by secret p = equal_bytes (auth_of p) (authenticator zeros p (length_of p) secret)
