-- What the kept counts, ends and lengths say of a type: whether one is there, and the value of the first.
-- Its end less its length is its place.
-- Assumes nothing.
use mathlib.Core.Path.{◌≡◌, refl, sym, ap, ◌∙◌}
use mathlib.Core.Bool.{not}
use mathlib.Core.List.{List}
use Prim.Native.Nat.{ℕ, zero, suc, ◌+◌, ◌-◌, ◌<◌}
use native.Mathlib.Omega.{arith}
use lib.Dec.{eqb, leb}
use borrow.Author.Tests.{le-leb}
use Rattle.octet_numbers.specs.Runs.{part}
use Rattle.attr_walk.specs.declared.Attribute.{Attribute}
use Rattle.attr_walk.specs.Attributes.{attributes, value_of, any, count_of, kind_is}
use Rattle.attr_walk.proofs.Searches.{any_count}
use Rattle.attr_survey.specs.declared.counts.Noted.{Noted}
use Rattle.attr_survey.specs.Noted.{noted_at, seen_at}
use Rattle.attr_survey.specs.Survey.{Kept, up_to_two}
use Rattle.attr_lookup.specs.Lookup.{kept_place, kept_size, kept_value}

-- the code's place and length
pub kept_part : (s v : List ℕ) (noted : List Noted) (k at m : ℕ) → at ≡ kept_place k noted → m ≡ kept_size k noted → v ≡ part at m s → v ≡ kept_value s k noted
unfolding kept_value
kept_part s v noted k at m i j r = r ∙ rw (i, j)

-- of an attribute it is its value
pub kept_attribute : (s : List ℕ) (a : Attribute) (k : ℕ) (noted : List Noted) → (noted_at noted k).end ≡ a.at + a.size → (noted_at noted k).size ≡ a.size
    → kept_value s k noted ≡ value_of s a
unfolding kept_value value_of
kept_attribute s a k noted p q = let e : a.at + a.size - a.size + 2 ≡ a.at + 2 = omega arith in rw (p, q, e)

some : (n : ℕ) → not (eqb (up_to_two n) 0) ≡ leb 1 n
some zero = refl
some (suc zero) = refl
some (suc (suc n)) = sym (le-leb 1 (suc (suc n)) (omega arith))

pub seen_any : (s : List ℕ) (noted : List Noted) → Kept s noted → (k : ℕ) → k < 256 → (k ≡ 33 → ⊥) → seen_at noted k ≡ any (kind_is k) (attributes s)
seen_any s noted i k h ne =
    ap (λ (n : ℕ). not (eqb n 0)) (i.types k h ne).number ∙ some (count_of (kind_is k) (attributes s)) ∙ sym (any_count (kind_is k) (attributes s))
