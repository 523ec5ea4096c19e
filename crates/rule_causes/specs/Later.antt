-- The causes after 404, as one definition, and the tests by which the code finds them from what a pass kept.
-- For inner contracts and proofs: the causes are in rule_causes/specs/Causes.antt.
-- Assumes nothing.
use Rattle.std.specs.Prelude.{Bool, cond, not, ◌&&◌, ◌||◌, List, ℕ, eqb, Option, Some, None}
use Rattle.octet_numbers.specs.Runs.{equal_bytes}
use Rattle.attr_walk.specs.Attributes.{attributes, any}
use Rattle.attr_survey.specs.declared.Flags.{Flags}
use Rattle.attr_survey.specs.declared.counts.Noted.{Noted}
use Rattle.attr_survey.specs.Noted.{seen_at}
use Rattle.attr_lookup.specs.Lookup.{kept_value}
use Rattle.rule_causes.specs.declared.cause.Cause as D
use Rattle.rule_causes.specs.declared.cause.Cause.TheVariants as C
use Rattle.rule_causes.specs.Causes.{mismatched, missing, oversized}

-- 403, 402, 506
unfoldable pub later_of : ℕ → ℕ → List ℕ → List ℕ → Option D.Cause
later_of code nas_ip nas_id s =
    cond (any (mismatched nas_ip nas_id s) (attributes s)) (Some C.IdentificationMismatch)
    (cond (missing code s) (Some C.MissingAttribute)
    (cond (any oversized (attributes s)) (Some C.ResourcesUnavailable)
    None))

-- 403: one of type k is there, and the value kept of the first is not our own
unfoldable pub differs_at : List ℕ → List Noted → ℕ → List ℕ → Bool
differs_at s noted k own = seen_at noted k && not (equal_bytes (kept_value s k noted) own)

-- 402 by the flags
unfoldable pub missing_by : ℕ → Flags → Bool
missing_by code f = not f.criterion || (eqb code 43 && not f.change)
