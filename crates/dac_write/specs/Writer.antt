-- The request writer (document 01: "a request writer", R2, R4, R12, R13).
-- Assumes nothing.
use Rattle.std.specs.Prelude.{Bool, cond, not, ◌||◌, List, ◌∷◌, ℕ, eqb, ltb, length, Option, Some, None, Result, Ok, Err}
use Rattle.octet_numbers.specs.Numbers.{be_bytes}
use Rattle.octet_numbers.specs.Runs.{write}
use Rattle.attr_walk.specs.Attributes.{attributes, tiled, any, kind_is}
use Rattle.packet_auth.specs.Signing.{zeros}
use Rattle.packet_write.specs.Packets.{packet_length, signed_packet}
use Rattle.nas_settings.specs.Settings.{bad_secret}
use Rattle.refusals.specs.declared.Refusal.{Refusal}
use Rattle.refusals.specs.declared.Refusal.TheVariants as R

-- what is to be written: code, identifier, attributes as given, and whether to add type 80, last
pub record Draft : Type 0 where
  pub code : ℕ
  pub identifier : ℕ
  pub given : List ℕ
  pub add : Bool

abbrev pub draft : ℕ → ℕ → List ℕ → Bool → Draft
draft code identifier given add = record { code = code; identifier = identifier; given = given; add = add }

-- R13: attributes break D3's rule, include 80, or exceed 4,076 bytes (4,058 if it is to add 80)
unfoldable pub bad_given : Draft → Bool
bad_given d = not (tiled d.given) || (any (kind_is 80) (attributes d.given) || ltb (cond d.add 4058 4076) (length d.given))

-- R2, R4, R12, R13, the lowest that applies
unfoldable pub write_refusal : List ℕ → List ℕ → Draft → Option Refusal
write_refusal secret out d =
    -- R2
    cond (bad_secret secret) (Some R.SecretLength)
    -- R4
    (cond (ltb (length out) 4096) (Some R.OutputRoom)
    -- R12
    (cond (not (eqb d.code 40 || eqb d.code 43)) (Some R.RequestCode)
    -- R13
    (cond (bad_given d) (Some R.GivenAttributes)
    None)))

unfoldable pub request_length : Draft → ℕ
request_length d = packet_length d.given d.add

unfoldable pub request_head : Draft → List ℕ
request_head d = d.code ∷ d.identifier ∷ be_bytes 2 (request_length d)

-- signed over zeros, with a type 80 if it is to be added
unfoldable pub request_of : List ℕ → Draft → List ℕ
request_of secret d = signed_packet secret zeros (request_head d) d.given d.add

-- refused, or written with length n
abbrev pub answer_by : Option Refusal → ℕ → Result ℕ Refusal
answer_by None n = Ok n
answer_by (Some r) n = Err r

-- the output stays, or is the written one
abbrev pub output_by : Option Refusal → List ℕ → List ℕ → List ℕ
output_by None out written = written
output_by (Some r) out written = out

-- refused, or its length; the output's first bytes hold it, and those after stay
unfoldable pub write_answer : List ℕ → List ℕ → Draft → Result ℕ Refusal
write_answer secret out d = answer_by (write_refusal secret out d) (request_length d)

unfoldable pub write_output : List ℕ → List ℕ → Draft → List ℕ
write_output secret out d = output_by (write_refusal secret out d) out (write out 0 (request_of secret d))
