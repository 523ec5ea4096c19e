-- The reply to a request (document 01, "NAK causes", last paragraph): identifier of the request; its first State; on NAK Error-Cause; every Proxy-State in order; type 80 if the request had one.
-- A reply is told by its cause: none is an ACK, any is a NAK.
-- Assumes nothing.
use Rattle.std.specs.Prelude.{Bool, cond, List, [], ◌∷◌, ◌++◌, ℕ, ◌+◌, Option, Some, None, is_some}
use Rattle.octet_numbers.specs.Numbers.{be_bytes}
use Rattle.octet_numbers.specs.Runs.{part}
use Rattle.attr_walk.specs.declared.Attribute.{Attribute}
use Rattle.attr_walk.specs.Attributes.{attributes, any, first_of, kind_is}
use Rattle.rule_causes.specs.declared.cause.Cause.{Cause}
use Rattle.rule_causes.specs.Causes.{error_cause}
use Rattle.packet_form.specs.Packet.{code_of, identifier_of, auth_of, area_of}
use Rattle.packet_write.specs.Packets.{packet_length, packet_mac, packet_auth, signed_packet}

-- an attribute of the area s, as it came
abbrev pub as_came : List ℕ → Attribute → List ℕ
as_came s a = part a.at a.size s

-- the one found, or nothing
abbrev pub if_found : List ℕ → Option Attribute → List ℕ
if_found s (Some a) = as_came s a
if_found s None = []

-- the first State (24), no later one
unfoldable pub state_part : List ℕ → List ℕ
state_part s = if_found s (first_of (kind_is 24) (attributes s))

-- Error-Cause (101, length 6) on NAK
unfoldable pub cause_part : Option Cause → List ℕ
cause_part (Some c) = 101 ∷ 6 ∷ be_bytes 4 (error_cause c)
cause_part None = []

-- every Proxy-State (33), in order
abbrev pub proxies_in : List ℕ → List Attribute → List ℕ
proxies_in s [] = []
proxies_in s (a ∷ rest) = cond (kind_is 33 a) (as_came s a ++ proxies_in s rest) (proxies_in s rest)

unfoldable pub proxy_part : List ℕ → List ℕ
proxy_part s = proxies_in s (attributes s)

-- the attributes but type 80
unfoldable pub body_of : List ℕ → Option Cause → List ℕ
body_of p c = state_part (area_of p) ++ cause_part c ++ proxy_part (area_of p)

-- the request has a type 80
abbrev pub maced : List ℕ → Bool
maced p = any (kind_is 80) (attributes (area_of p))

unfoldable pub reply_length : List ℕ → Option Cause → ℕ
reply_length p c = packet_length (body_of p c) (maced p)

-- the request's code plus 1 for an ACK, plus 2 for a NAK; its identifier; Length
unfoldable pub head_of : List ℕ → Option Cause → List ℕ
head_of p c = (code_of p + cond (is_some c) 2 1) ∷ identifier_of p ∷ be_bytes 2 (reply_length p c)

-- signed over the request's authenticator, with a type 80 if the request had one: its Message-Authenticator, the response authenticator, the reply
unfoldable pub reply_mac : List ℕ → List ℕ → Option Cause → List ℕ
reply_mac secret p c = packet_mac secret (auth_of p) (head_of p c) (body_of p c) (maced p)

unfoldable pub reply_auth : List ℕ → List ℕ → Option Cause → List ℕ
reply_auth secret p c = packet_auth secret (auth_of p) (head_of p c) (body_of p c) (maced p)

unfoldable pub reply_of : List ℕ → List ℕ → Option Cause → List ℕ
reply_of secret p c = signed_packet secret (auth_of p) (head_of p c) (body_of p c) (maced p)
