-- What is counted is seen: a type that was counted once more is one type more that is seen, and no other.
-- Assumes nothing.
use mathlib.Core.Path.{◌≡◌, refl}
use mathlib.Core.Bool.{Bool, true, false, not, ◌||◌}
use mathlib.Core.List.{List}
use Prim.Native.Nat.{ℕ, ◌<◌}
use lib.Dec.{eqb}
use lib.ListN.{length}
use borrow.Author.Tests.{eqb-true, eqb-false}
use Rattle.attr_types.specs.Types.{also}
use Rattle.attr_survey.specs.declared.counts.Noted.{Noted}
use Rattle.attr_survey.specs.Noted.{noted_at, seen_at, noted_more, note_at}
use Rattle.attr_survey.proofs.Notes.{more_first, more_again, note_same, note_other}

more_seen : (x : Noted) (end size : ℕ) (z : Bool) → eqb x.number 0 ≡ z → true ≡ not (eqb (noted_more x end size).number 0)
more_seen x end size true e = rw (more_first x end size (eqb-true _ _ e))
more_seen x end size false e = rw (more_again x end size (eqb-false _ _ e))

module _ (noted : List Noted) (k end size : ℕ) (h : k < length noted) where
  seen_case : (j : ℕ) (b : Bool) → eqb j k ≡ b → (b || seen_at noted j) ≡ seen_at (note_at noted k end size) j
  seen_case j true e = let q : j ≡ k = eqb-true _ _ e in rw (q, note_same noted k end size h) (more_seen (noted_at noted k) end size _ refl)
  seen_case j false e = rw (note_other noted k end size j (eqb-false _ _ e))

  pub also_counted : (j : ℕ) → also k (seen_at noted) j ≡ seen_at (note_at noted k end size) j
  also_counted j = seen_case j _ refl
