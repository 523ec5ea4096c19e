-- What the test exports take as bytes and numbers: the criteria of a request, and the change that it makes.
-- Assumes nothing.
use Rattle.std.specs.Prelude.{cond, List, [], ◌∷◌, ℕ, ◌+◌, eqb, leb, length, get_or, Option, None, Some}
use Rattle.octet_runs.specs.declared.span.Span.{Span}
use Rattle.table_criteria.specs.declared.Criterion.{Criterion}
use Rattle.table_criteria.specs.declared.Field.{Field}
use Rattle.table_criteria.specs.declared.Field.TheVariants.{UserName, NasPort, FramedAddress, CallingStation, SessionId}
use Rattle.table_change.specs.declared.Change.{Change}
use Rattle.table_change.specs.declared.Change.TheVariants.{End, Alter}

-- the field of a number: 0 to 3 in the order of their attributes' types, any other the last
unfoldable pub field_of : ℕ → Field
field_of n = cond (eqb n 0) UserName (cond (eqb n 1) NasPort (cond (eqb n 2) FramedAddress (cond (eqb n 3) CallingStation SessionId)))

-- three bytes at place i, where there are three: field, place and size of the value
unfoldable pub criterion_at : ℕ → List ℕ → Option Criterion
criterion_at i s =
    cond (leb (i + 3) (length s))
    (Some (record { field = field_of (get_or s i 0); value = record { at = get_or s (i + 1) 0; size = get_or s (i + 2) 0 } }))
    None

-- as many criteria as there are three bytes, five at most
unfoldable pub criteria_of : List ℕ → List (Option Criterion)
criteria_of s = criterion_at 0 s ∷ criterion_at 3 s ∷ criterion_at 6 s ∷ criterion_at 9 s ∷ criterion_at 12 s ∷ []

-- a setting, where its flag is not 0
unfoldable pub number_of : ℕ → ℕ → Option ℕ
number_of set v = cond (eqb set 0) None (Some v)

unfoldable pub text_of : ℕ → ℕ → ℕ → Option Span
text_of set at size = cond (eqb set 0) None (Some (record { at = at; size = size }))

-- the end of a session, where its flag is not 0, else the five settings
unfoldable pub change_of : ℕ → ℕ → ℕ → ℕ → ℕ → ℕ → ℕ → ℕ → ℕ → ℕ → ℕ → ℕ → Change
change_of end timed timeout idled idle filtered at size downed down upped up =
    cond (eqb end 0)
    (Alter
    (record {
      timeout = number_of timed timeout;
      idle = number_of idled idle;
      filter = text_of filtered at size;
      down = number_of downed down;
      up = number_of upped up;
    }))
    End
