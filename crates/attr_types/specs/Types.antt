-- What document 01 says of attribute types ("NAK causes"), as lists, and the rules that one attribute can break.
-- Assumes nothing.
use Rattle.std.specs.Prelude.{Bool, false, cond, not, ◌&&◌, ◌||◌, List, [], ◌∷◌, ℕ, eqb, Option, Some, None}
use Rattle.octet_numbers.specs.Runs.{member}
use Rattle.attr_walk.specs.declared.Attribute.{Attribute}
use Rattle.attr_vendor.specs.Vendor.{other_vendor, faulty_vendor, sets_rate_in}

-- the types that a CoA-Request supports, with 26 of document 02, request 01; a Disconnect-Request supports the same less 11, 26, 27, 28
abbrev pub coa_types : List ℕ
coa_types = 1 ∷ 4 ∷ 5 ∷ 6 ∷ 8 ∷ 11 ∷ 24 ∷ 26 ∷ 27 ∷ 28 ∷ 31 ∷ 32 ∷ 33 ∷ 44 ∷ 55 ∷ 80 ∷ []

abbrev pub coa_only : List ℕ
coa_only = 11 ∷ 26 ∷ 27 ∷ 28 ∷ []

unfoldable pub supported : ℕ → ℕ → Bool
supported code kind = member kind coa_types && (eqb code 43 || not (member kind coa_only))

-- 404: types that must have length 6, and types that must not have length 2
abbrev pub six_types : List ℕ
six_types = 4 ∷ 5 ∷ 8 ∷ 27 ∷ 28 ∷ []

abbrev pub filled_types : List ℕ
filled_types = 1 ∷ 11 ∷ 24 ∷ 31 ∷ 32 ∷ 33 ∷ 44 ∷ []

-- 402: types that name a session, and types that change one
abbrev pub naming_types : List ℕ
naming_types = 1 ∷ 5 ∷ 8 ∷ 31 ∷ 44 ∷ []

abbrev pub changing_types : List ℕ
changing_types = 11 ∷ 27 ∷ 28 ∷ []

-- 401: a type that is not supported in a request of this code
abbrev pub unsupported_type : ℕ → Attribute → Bool
unsupported_type code a = not (supported code a.kind)

-- 401: such a type, or a type 26 of another vendor. s is the area of the attributes.
abbrev pub unsupported_in : ℕ → List ℕ → Attribute → Bool
unsupported_in code s a = unsupported_type code a || other_vendor s a

-- 404: a length that the type may not have
unfoldable pub misfit_of : ℕ → ℕ → Bool
misfit_of kind size = (member kind six_types && not (eqb size 6)) || (member kind filled_types && eqb size 2)

abbrev pub misfitting : Attribute → Bool
misfitting a = misfit_of a.kind a.size

-- 404: such a length, or a type 26 that is not well-formed
abbrev pub malformed : List ℕ → Attribute → Bool
malformed s a = misfitting a || faulty_vendor s a

abbrev pub among : List ℕ → Attribute → Bool
among ks a = member a.kind ks

-- 402: one of the types that change a session, or a type 26 that sets a rate
abbrev pub changing : List ℕ → Attribute → Bool
changing s a = among changing_types a || sets_rate_in s a

-- 404: the first attribute whose type, not 33, stands before it. `seen` tells the types that stand before the list.
abbrev pub also : ℕ → (ℕ → Bool) → ℕ → Bool
also k seen j = eqb j k || seen j

abbrev pub none : ℕ → Bool
none k = false

abbrev pub first_repeated : (ℕ → Bool) → List Attribute → Option Attribute
first_repeated seen [] = None
first_repeated seen (a ∷ rest) = cond (not (eqb a.kind 33) && seen a.kind) (Some a) (first_repeated (also a.kind seen) rest)
