-- Which sessions a request names (document 01: "A session matches if every one of 1, 5, 8, 31, 44 in the request equals its field").
-- The request is told by the area of its attributes.
-- Assumes nothing.
use Rattle.std.specs.Prelude.{Bool, true, cond, ◌&&◌, List, [], ◌∷◌, ℕ, eqb}
use Rattle.octet_numbers.specs.Runs.{equal_bytes}
use Rattle.attr_walk.specs.declared.Attribute.{Attribute}
use Rattle.attr_walk.specs.Attributes.{attributes, value_of}
use Rattle.attr_types.specs.Types.{among, naming_types}
use Rattle.table_criteria.specs.declared.Field.{Field}
use Rattle.table_criteria.specs.declared.Field.TheVariants.{UserName, NasPort, FramedAddress, CallingStation, SessionId}
use Rattle.table_slots.specs.Slot.{live, slot, slot_count}
use Rattle.table_criteria.specs.Meets.{field_bytes}
use Rattle.table_slots.specs.Marks.{count_to}

-- the field that a type of `criteria` is compared with: 1, 5, 8, 31, else 44
unfoldable pub field_for : ℕ → Field
field_for k = cond (eqb k 1) UserName (cond (eqb k 5) NasPort (cond (eqb k 8) FramedAddress (cond (eqb k 31) CallingStation SessionId)))

-- an attribute that names a session equals its field in the slot s, byte for byte with equal length; any other asks nothing
unfoldable pub equals_field : List ℕ → List ℕ → Attribute → Bool
equals_field area s a = cond (among naming_types a) (equal_bytes (value_of area a) (field_bytes (field_for a.kind) s)) true

abbrev pub all_of : (Attribute → Bool) → List Attribute → Bool
all_of f [] = true
all_of f (a ∷ rest) = f a && all_of f rest

-- a live session that every one of 1, 5, 8, 31, 44 in the request equals
unfoldable pub session_matches : List ℕ → List ℕ → Bool
session_matches area s = live s && all_of (equals_field area s) (attributes area)

-- slot k of the table t does
abbrev pub matches_in : List ℕ → List ℕ → ℕ → Bool
matches_in area t k = session_matches area (slot k t)

-- the number of matching live slots
unfoldable pub match_count : List ℕ → List ℕ → ℕ
match_count area t = count_to (matches_in area t) (slot_count t)
