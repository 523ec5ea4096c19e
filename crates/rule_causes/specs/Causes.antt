-- The NAK causes 1 to 6, first that applies (document 01, "NAK causes"). Each is a test of the attributes in their order.
-- Assumes nothing.
use Rattle.std.specs.Prelude.{Bool, cond, not, ◌&&◌, ◌||◌, List, ℕ, eqb, ltb, Option, Some, None}
use Rattle.octet_numbers.specs.Numbers.{be_bytes}
use Rattle.octet_numbers.specs.Runs.{equal_bytes}
use Rattle.attr_walk.specs.declared.Attribute.{Attribute}
use Rattle.attr_walk.specs.Attributes.{attributes, value_of, any, found, kind_is}
use Rattle.attr_types.specs.Types.{unsupported_in, malformed, changing, among, naming_types, first_repeated, none}
use Rattle.rule_causes.specs.declared.cause.Cause as D
use Rattle.rule_causes.specs.declared.cause.Cause.TheVariants as C

-- RFC 3576, 3.5: the numbers of the causes
unfoldable pub error_cause : D.Cause → ℕ
error_cause C.UnsupportedAttribute = 401
error_cause C.MissingAttribute = 402
error_cause C.IdentificationMismatch = 403
error_cause C.InvalidRequest = 404
error_cause C.UnsupportedService = 405
error_cause C.SessionNotFound = 503
error_cause C.ResourcesUnavailable = 506

-- 403: type 4 or 32 differs from the gate's own address and NAS-Identifier
abbrev pub differing : List ℕ → ℕ → List ℕ → Attribute → Bool
differing s k own a = kind_is k a && not (equal_bytes (value_of s a) own)

abbrev pub mismatched : ℕ → List ℕ → List ℕ → Attribute → Bool
mismatched nas_ip nas_id s a = differing s 4 (be_bytes 4 nas_ip) a || differing s 32 nas_id a

-- 402: none that names a session, or a CoA with none that changes one
unfoldable pub missing : ℕ → List ℕ → Bool
missing code s = not (any (among naming_types) (attributes s)) || (eqb code 43 && not (any (changing s) (attributes s)))

-- 506: a Filter-Id whose value has more than 32 bytes
abbrev pub oversized : Attribute → Bool
oversized a = kind_is 11 a && ltb 34 a.size

-- 404: a type but 33 twice, a length that its type may not have, or a type 26 that is not well-formed
unfoldable pub invalid : List ℕ → Bool
invalid s = found (first_repeated none (attributes s)) || any (malformed s) (attributes s)

-- the first cause that applies to the area s of a request of this code, at a gate of this address and name
unfoldable pub cause_of : ℕ → ℕ → List ℕ → List ℕ → Option D.Cause
cause_of code nas_ip nas_id s =
    cond (any (unsupported_in code s) (attributes s)) (Some C.UnsupportedAttribute)
    (cond (any (kind_is 6) (attributes s)) (Some C.UnsupportedService)
    (cond (invalid s) (Some C.InvalidRequest)
    (cond (any (mismatched nas_ip nas_id s) (attributes s)) (Some C.IdentificationMismatch)
    (cond (missing code s) (Some C.MissingAttribute)
    (cond (any oversized (attributes s)) (Some C.ResourcesUnavailable)
    None)))))
