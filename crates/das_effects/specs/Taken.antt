-- The criteria and the changes of a request, read off what the pass over its attributes kept of each type.
-- For inner contracts and proofs: which sessions a request names is said in das_effects/specs/Matching.antt, what it does to them in das_effects/specs/Changes.antt.
-- Assumes nothing.
use Rattle.std.specs.Prelude.{cond, List, [], ◌∷◌, ℕ, Option, Some, None}
use Rattle.std.specs.Option.{option_map}
use Rattle.octet_numbers.specs.Numbers.{be}
use Rattle.octet_runs.specs.declared.span.Span.{Span}
use Rattle.attr_survey.specs.declared.counts.Noted.{Noted}
use Rattle.attr_survey.specs.Noted.{seen_at}
use Rattle.attr_lookup.specs.Lookup.{kept_place, kept_size}
use Rattle.table_criteria.specs.declared.Field.{Field}
use Rattle.table_criteria.specs.declared.Field.TheVariants.{UserName, NasPort, FramedAddress, CallingStation, SessionId}
use Rattle.table_criteria.specs.declared.Criterion.{Criterion}
use Rattle.table_criteria.specs.Meets.{listed}

-- where the value of the first attribute of type k lies, or none where the type is not there; a CoA sets a text to it
unfoldable pub taken_value : ℕ → List Noted → Option Span
taken_value k noted = cond (seen_at noted k) (Some (record { at = kept_place k noted; size = kept_size k noted })) None

-- a field must have this value
abbrev pub taken_criterion : Field → Span → Criterion
taken_criterion f v = record { field = f; value = v }

-- one criterion, or none where the type is not there
abbrev pub if_there : Field → ℕ → List Noted → Option Criterion
if_there f k noted = option_map (taken_criterion f) (taken_value k noted)

unfoldable pub taken_criteria : List Noted → List Criterion
taken_criteria noted =
    listed
    (if_there UserName 1 noted
    ∷ if_there NasPort 5 noted
    ∷ if_there FramedAddress 8 noted
    ∷ if_there CallingStation 31 noted
    ∷ if_there SessionId 44 noted
    ∷ [])

-- what a CoA sets a number to
abbrev pub taken_number : List ℕ → ℕ → List Noted → Option ℕ
taken_number area k noted = option_map (λ v. be v.at 4 area) (taken_value k noted)
