-- A slot against a list of criteria, as the code walks it. Which sessions a request names is said in das_effects/specs/Matching.antt; of
-- this file the contracts of the calls use `field_bytes` alone, the field of a session that a criterion asks for.
-- Assumes nothing.
use Rattle.std.specs.Prelude.{Bool, true, ◌&&◌, List, [], ◌∷◌, ℕ, ◌+◌, leb, length, Option, None, Some}
use Rattle.std.specs.List.{filter_map}
use Rattle.octet_numbers.specs.Runs.{part, equal_bytes}
use Rattle.table_slots.specs.Slot.{live, slot, user_name, calling_station, session_id}
use Rattle.table_criteria.specs.declared.Criterion.{Criterion}
use Rattle.table_criteria.specs.declared.Field.{Field}
use Rattle.table_criteria.specs.declared.Field.TheVariants.{UserName, NasPort, FramedAddress, CallingStation, SessionId}

-- the bytes of a slot that a criterion is compared with: a text, or the four bytes that hold a number (`nas_port`, `framed_address`)
unfoldable pub field_bytes : Field → List ℕ → List ℕ
field_bytes UserName s = user_name s
field_bytes NasPort s = part 2 4 s
field_bytes FramedAddress s = part 6 4 s
field_bytes CallingStation s = calling_station s
field_bytes SessionId s = session_id s

-- where a field begins: a number before place 18, a text with its length byte
unfoldable pub place : Field → ℕ
place UserName = 18
place NasPort = 2
place FramedAddress = 6
place CallingStation = 115
place SessionId = 82

-- the value asked for, a part of the area of the request's attributes
abbrev pub wanted : List ℕ → Criterion → List ℕ
wanted area c = part c.value.at c.value.size area

-- it lies in the area as a whole, and is no longer than a text can be
unfoldable pub inside : List ℕ → Criterion → Bool
inside area c = leb (c.value.at + c.value.size) (length area) && leb c.value.size 63

-- the field equals the value asked for
unfoldable pub meets : List ℕ → List ℕ → Criterion → Bool
meets area s c = equal_bytes (wanted area c) (field_bytes c.field s)

abbrev pub all : (Criterion → Bool) → List Criterion → Bool
all f [] = true
all f (c ∷ cs) = f c && all f cs

-- the criteria of a request: those that are there, in order
abbrev pub listed : List (Option Criterion) → List Criterion
listed cs = filter_map (λ c. c) cs

-- the first of them
abbrev pub first_of : List (Option Criterion) → Option Criterion
first_of [] = None
first_of (None ∷ cs) = first_of cs
first_of (Some c ∷ cs) = Some c

-- a live slot that meets every criterion
unfoldable pub matches : List ℕ → List Criterion → List ℕ → Bool
matches area cs s = live s && all (meets area s) cs

-- slot k of the table t does
abbrev pub matches_at : List ℕ → List Criterion → List ℕ → ℕ → Bool
matches_at area cs t k = matches area cs (slot k t)
