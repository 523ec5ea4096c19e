-- One note: the entry of its own type has one more, every other entry stays. Assumes nothing.
use mathlib.Core.Path.{◌≡◌}
use mathlib.Core.List.{List}
use Prim.Native.Nat.{ℕ, ◌<◌}
use lib.ListN.{length, set, length-set}
use lib.Seq.{get_or-set_same, get_or-set_other}
use borrow.Author.Tests.{eq-eqb, ne_eqb}
use Rattle.attr_survey.specs.declared.counts.Noted.{Noted}
use Rattle.attr_survey.specs.Noted.{none_noted, noted_at, noted_more, note_at}

-- the first of its type, and any more
pub more_first : (x : Noted) (end size : ℕ) → x.number ≡ 0 → noted_more x end size ≡ record { number = 1; end = end; size = size }
unfolding noted_more
more_first x end size h = rw (eq-eqb _ _ h)

pub more_again : (x : Noted) (end size : ℕ) → (x.number ≡ 0 → ⊥) → noted_more x end size ≡ record { number = 2; end = x.end; size = x.size }
unfolding noted_more
more_again x end size h = rw (ne_eqb _ _ h)

module _ (noted : List Noted) (k end size : ℕ) where
  pub length-note_at : length (note_at noted k end size) ≡ length noted
  unfolding note_at
  length-note_at = length-set noted k (noted_more (noted_at noted k) end size)

  pub note_same : k < length noted → noted_at (note_at noted k end size) k ≡ noted_more (noted_at noted k) end size
  unfolding note_at
  note_same h = get_or-set_same noted k (noted_more (noted_at noted k) end size) none_noted h

  pub note_other : (j : ℕ) → (j ≡ k → ⊥) → noted_at (note_at noted k end size) j ≡ noted_at noted j
  unfolding note_at
  note_other j h = get_or-set_other noted k j (noted_more (noted_at noted k) end size) none_noted h

  -- what the code stores
  pub new_noted : (noted_at noted k).number ≡ 0 → set noted k (record { number = 1; end = end; size = size }) ≡ note_at noted k end size
  unfolding note_at
  new_noted h = rw (more_first (noted_at noted k) end size h)

  pub old_noted : ((noted_at noted k).number ≡ 0 → ⊥) → set noted k (record { number = 2; end = (noted_at noted k).end; size = (noted_at noted k).size }) ≡ note_at noted k end size
  unfolding note_at
  old_noted h = rw (more_again (noted_at noted k) end size h)
