-- A pass over an area is a pass over any name of the same bytes: each record goes along an equation of areas, either way.
-- Assumes nothing.
use mathlib.Core.Path.{◌≡◌}
use mathlib.Core.List.{List}
use Prim.Native.Nat.{ℕ}
use Rattle.attr_survey.specs.declared.Flags.{Flags}
use Rattle.attr_survey.specs.declared.counts.Noted.{Noted}
use Rattle.attr_survey.specs.Survey.{Kept, Flagged}

module _ (s t : List ℕ) (e : s ≡ t) where
  pub kept_at : (noted : List Noted) → Kept t noted → Kept s noted
  kept_at noted h = rw e h

  pub kept_of : (noted : List Noted) → Kept s noted → Kept t noted
  kept_of noted h = rw e at h

  pub flagged_at : (code : ℕ) (f : Flags) → Flagged t code f → Flagged s code f
  flagged_at code f h = rw e h

  pub flagged_of : (code : ℕ) (f : Flags) → Flagged s code f → Flagged t code f
  flagged_of code f h = rw e at h
