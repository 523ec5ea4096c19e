-- D5 of document 01's "Silent discards, first that applies".
-- Assumes nothing.
use Rattle.std.specs.Prelude.{Bool, not, ◌&&◌, ◌||◌, List, ℕ, ◌+◌, eqb, ltb}
use Rattle.octet_numbers.specs.Runs.{equal_bytes}
use Rattle.attr_walk.specs.declared.Attribute.{Attribute}
use Rattle.attr_walk.specs.Attributes.{attributes, value_of, any, count_of, kind_is}
use Rattle.packet_form.specs.Packet.{length_of, area_of}
use Rattle.packet_auth.specs.Signing.{message_authenticator}

-- type 80 not of length 18, or wrong: its value stands two bytes after its place, and the area begins at place 20.
-- `auth` stands in the authenticator's place: zeros in a request, the request's authenticator in a reply.
unfoldable pub wrong_mac : List ℕ → List ℕ → List ℕ → Attribute → Bool
wrong_mac auth secret p a = not (eqb a.size 18) || not (equal_bytes (value_of (area_of p) a) (message_authenticator auth p (length_of p) (22 + a.at) secret))

-- type 80 more than once, not of length 18, or wrong. Of a request this is D5
unfoldable pub bad_mac : List ℕ → List ℕ → List ℕ → Bool
bad_mac auth secret p =
    ltb 1 (count_of (kind_is 80) (attributes (area_of p)))
    || any (λ a. kind_is 80 a && wrong_mac auth secret p a) (attributes (area_of p))
