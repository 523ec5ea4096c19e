-- What one pass over the attributes of an area tells: flags for the rules, and for each type how many there are (2 for any more) and where the first one ends.
-- For inner contracts and proofs: what flags and counts stand for is said in attr_types/specs/Types.antt and attr_walk/specs/Attributes.antt.
-- Assumes nothing.
use Rattle.std.specs.Prelude.{List, ◌≡◌, ℕ, zero, suc, ◌+◌, ◌<◌, Option, Some, None}
use Rattle.attr_walk.specs.declared.Attribute.{Attribute}
use Rattle.attr_walk.specs.Attributes.{attributes, tiled, any, found, first_of, count_of, kind_is}
use Rattle.attr_survey.specs.declared.counts.Noted.{Noted}
use Rattle.attr_survey.specs.declared.Flags as D
use Rattle.attr_survey.specs.Noted.{noted_at}
use Rattle.attr_types.specs.Types.{unsupported_type, unsupported_in, misfitting, malformed, among, naming_types, changing_types, changing, first_repeated, none}

-- a count, 2 for any more
abbrev pub up_to_two : ℕ → ℕ
up_to_two zero = 0
up_to_two (suc zero) = 1
up_to_two (suc (suc n)) = 2

-- where a found attribute ends, and its length
abbrev pub end_of : Option Attribute → ℕ
end_of (Some a) = a.at + a.size
end_of None = 0

abbrev pub size_of : Option Attribute → ℕ
size_of (Some a) = a.size
size_of None = 0

-- what is kept of type k: how many there are, 2 for any more, and where the first one ends
pub record Counted (l : List Attribute) (k : ℕ) (x : Noted) : Type 0 where
  pub number : x.number ≡ up_to_two (count_of (kind_is k) l)
  pub end : x.end ≡ end_of (first_of (kind_is k) l)
  pub size : x.size ≡ size_of (first_of (kind_is k) l)

-- what a pass over the area s kept of each type but 33, which may repeat and is not counted
pub record Kept (s : List ℕ) (noted : List Noted) : Type 0 where
  pub types : (k : ℕ) → k < 256 → (k ≡ 33 → ⊥) → Counted (attributes s) k (noted_at noted k)

-- the flags of a pass over the area s of a request of this code, by the types and lengths of its attributes alone
pub record Typed (s : List ℕ) (code : ℕ) (r : D.Flags) : Type 0 where
  pub tiles : r.tiled ≡ tiled s
  pub unsupported : r.unsupported ≡ any (unsupported_type code) (attributes s)
  pub service : r.service ≡ any (kind_is 6) (attributes s)
  pub repeated : r.repeated ≡ found (first_repeated none (attributes s))
  pub misfit : r.misfit ≡ any misfitting (attributes s)
  pub criterion : r.criterion ≡ any (among naming_types) (attributes s)
  pub change : r.change ≡ any (among changing_types) (attributes s)

-- with what its Vendor-Specific attributes say
pub record Flagged (s : List ℕ) (code : ℕ) (r : D.Flags) : Type 0 where
  pub tiles : r.tiled ≡ tiled s
  pub unsupported : r.unsupported ≡ any (unsupported_in code s) (attributes s)
  pub service : r.service ≡ any (kind_is 6) (attributes s)
  pub repeated : r.repeated ≡ found (first_repeated none (attributes s))
  pub misfit : r.misfit ≡ any (malformed s) (attributes s)
  pub criterion : r.criterion ≡ any (among naming_types) (attributes s)
  pub change : r.change ≡ any (changing s) (attributes s)
