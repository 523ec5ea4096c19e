-- A count up to two tells none, one and more apart, and the end and the length that are kept of a type are those of its first attribute.
-- Assumes nothing.
use mathlib.Core.Path.{◌≡◌, refl}
use mathlib.Core.Bool.{Bool}
use mathlib.Core.List.{List}
use Prim.Native.Nat.{ℕ, zero, suc, ◌≤◌, ◌<◌}
use native.Mathlib.Omega.{arith}
use lib.ListN.{length}
use Rattle.std.specs.Prelude.{Option, Some, None}
use Rattle.attr_walk.specs.declared.Attribute.{Attribute}
use Rattle.attr_walk.specs.Attributes.{attributes, first_of}
use Rattle.attr_walk.proofs.Stands.{first_placed}
use Rattle.attr_survey.specs.Survey.{up_to_two, end_of, size_of}

pub two_none : (n : ℕ) → up_to_two n ≡ 0 → n ≡ 0
two_none zero e = refl
two_none (suc zero) e = absurd (omega arith)
two_none (suc (suc n)) e = absurd (omega arith)

pub two_one : (n : ℕ) → up_to_two n ≡ 1 → n ≡ 1
two_one zero e = absurd (omega arith)
two_one (suc zero) e = refl
two_one (suc (suc n)) e = absurd (omega arith)

pub two_more : (n : ℕ) → (up_to_two n ≡ 0 → ⊥) → (up_to_two n ≡ 1 → ⊥) → 1 < n
two_more zero h g = absurd (h refl)
two_more (suc zero) h g = absurd (g refl)
two_more (suc (suc n)) h g = omega arith

pub size_low : (x : Option Attribute) → size_of x ≤ end_of x
size_low (Some a) = omega arith
size_low None = omega arith

pub end_inside : (p : Attribute → Bool) (s : List ℕ) (x : Option Attribute) → x ≡ first_of p (attributes s) → end_of x ≤ length s
end_inside p s (Some a) q = let g = first_placed p s (Some a) a q refl in g.inside
end_inside p s None q = omega arith
