-- What a packet is signed with (document 01, "The packet"; RFC 2865, 3; RFC 5176, 3.4). p is a packet, n its Length; bytes after Length are not looked at.
-- Assumes nothing.
use Rattle.std.specs.Prelude.{List, ◌++◌, ℕ, ◌+◌, take, drop, replicate}
use Rattle.md5_ops.specs.Md5.{md5}
use Rattle.md5_hmac.specs.Hmac.{hmac}

-- sixteen zeros
unfoldable pub zeros : List ℕ
zeros = replicate 16 0

-- code, identifier and Length, auth in the authenticator's place, the attributes
unfoldable pub with_auth : List ℕ → List ℕ → ℕ → List ℕ
with_auth auth p n = take 4 p ++ auth ++ drop 20 (take n p)

-- the message under the authenticator: the same, and the secret
unfoldable pub signed : List ℕ → List ℕ → ℕ → List ℕ → List ℕ
signed auth p n secret = with_auth auth p n ++ secret

-- the authenticator of a packet: auth is zeros for a request, the request's authenticator for a reply
unfoldable pub authenticator : List ℕ → List ℕ → ℕ → List ℕ → List ℕ
authenticator auth p n secret = md5 (signed auth p n secret)

-- a message with zeros in the place of the 16 bytes from place at on
unfoldable pub blanked : ℕ → List ℕ → List ℕ
blanked at m = take at m ++ zeros ++ drop (at + 16) m

-- the Message-Authenticator whose value stands at place at of the packet
unfoldable pub message_authenticator : List ℕ → List ℕ → ℕ → ℕ → List ℕ → List ℕ
message_authenticator auth p n at secret = hmac secret (blanked at (with_auth auth p n))
