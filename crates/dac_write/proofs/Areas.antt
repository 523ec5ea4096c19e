-- R13's pass over the attributes: none of type 80 stands before the place, so what the rest says is what the whole says; a type 80 or a bad place decides. Assumes nothing.
use mathlib.Core.Path.{◌≡◌, refl, sym, ◌∙◌}
use mathlib.Core.Bool.{Bool, true, false, not, ◌||◌, or-true}
use mathlib.Core.List.{List}
use Prim.Native.Nat.{ℕ}
use borrow.Author.Tests.{eq-eqb, ne_eqb}
use Rattle.attr_walk.specs.declared.Attribute.{Attribute}
use Rattle.attr_walk.specs.declared.Step.{Step}
use Rattle.attr_walk.specs.declared.Step.TheVariants.{Found, End, Bad}
use Rattle.attr_walk.specs.Attributes.{step_at, attributes_from, tiled_from, any, kind_is}
use Rattle.attr_walk.proofs.Walks.{left_found, left_end, tiles_on, tiles_end, tiles_bad}

-- attributes do not fill what is left from a place on, or one there is of type 80
abbrev pub unfit_from : List ℕ → ℕ → Bool
unfit_from s at = not (tiled_from s at) || any (kind_is 80) (attributes_from s at)

-- z is the answer on the whole, x the step at the place
module _ (s : List ℕ) (z : Bool) (at : ℕ) (x : Step) (i : z ≡ unfit_from s at) (q : x ≡ step_at s at) where
  pub unfit_here : (next : ℕ) (a : Attribute) → x ≡ Found a next → a.kind ≡ 80 → true ≡ z
  unfit_here next a r e = sym (i ∙ rw (left_found s at x q next a r, eq-eqb _ _ e) (or-true (not (tiled_from s at))))

  pub unfit_on : (next : ℕ) (a : Attribute) → x ≡ Found a next → (a.kind ≡ 80 → ⊥) → z ≡ unfit_from s next
  unfit_on next a r n = i ∙ rw (left_found s at x q next a r, ne_eqb _ _ n, tiles_on s (tiled_from s at) at x refl q next a r)

  pub unfit_end : x ≡ End → false ≡ z
  unfit_end r = sym (i ∙ rw (left_end s at x q r, ← (tiles_end s (tiled_from s at) at x refl q r)))

  pub unfit_bad : x ≡ Bad → true ≡ z
  unfit_bad r = sym (i ∙ rw (← (tiles_bad s (tiled_from s at) at x refl q r)))
