-- What a pass kept of the first attribute of a type: where it starts, where its value lies, and the value.
-- For inner contracts and proofs: what a pass keeps is said in attr_survey/specs/Survey.antt.
-- Assumes nothing.
use Rattle.std.specs.Prelude.{List, ℕ, ◌+◌, ◌-◌}
use Rattle.octet_numbers.specs.Runs.{part}
use Rattle.attr_survey.specs.declared.counts.Noted.{Noted}
use Rattle.attr_survey.specs.Noted.{noted_at}

-- it starts its length before its end
abbrev pub kept_start : ℕ → List Noted → ℕ
kept_start k noted = (noted_at noted k).end - (noted_at noted k).size

-- its value comes after type and length
abbrev pub kept_place : ℕ → List Noted → ℕ
kept_place k noted = kept_start k noted + 2

abbrev pub kept_size : ℕ → List Noted → ℕ
kept_size k noted = (noted_at noted k).size - 2

unfoldable pub kept_value : List ℕ → ℕ → List Noted → List ℕ
kept_value s k noted = part (kept_place k noted) (kept_size k noted) s
