-- The three laws of a walk over the attributes, one turn each, and the same in the shape of what a loop over `step_at` knows.
-- An attribute takes a byte or more, so any number of turns from the bytes left on gives the same walk.
-- Assumes nothing.
use mathlib.Core.Path.{◌≡◌, refl, sym, ap, ◌∙◌}
use mathlib.Core.Bool.{Bool, true, false}
use mathlib.Core.List.{List, [], ◌∷◌}
use Prim.Native.Nat.{ℕ, zero, suc, ◌+◌, ◌-◌, ◌≤◌, ◌<◌}
use native.Mathlib.Omega.{arith}
use lib.ListN.{length}
use Rattle.attr_walk.specs.declared.Attribute.{Attribute}
use Rattle.attr_walk.specs.declared.Step.{Step}
use Rattle.attr_walk.specs.declared.Step.TheVariants.{Found, End, Bad}
use Rattle.attr_walk.specs.Attributes.{step_at, walk, walk_from, on_step, attributes_from, tiled_from}
use Rattle.attr_walk.proofs.Steps.{step_end, step_inv, found_placed}

module _ {ℓ} {A : Type ℓ} (e b : A) (f : Attribute → A → A) (s : List ℕ) where
  turn : (n m at : ℕ) (x : Step) → step_at s at ≡ x → ((next : ℕ) → at < next → walk e b f s n next ≡ walk e b f s m next)
      → on_step e b (λ a next. f a (walk e b f s n next)) x ≡ on_step e b (λ a next. f a (walk e b f s m next)) x
  turn n m at (Found a next) q ih = ap (f a) (ih next (step_inv s at a next q).later)
  turn n m at End q ih = refl
  turn n m at Bad q ih = refl

  -- any number of turns that is enough gives the same
  enough : (n m at : ℕ) → length s ≤ at + n → length s ≤ at + m → walk e b f s n at ≡ walk e b f s m at
  enough zero zero at h k = refl
  enough zero (suc m) at h k = rw (step_end s at (omega arith))
  enough (suc n) zero at h k = rw (step_end s at (omega arith))
  enough (suc n) (suc m) at h k = turn n m at (step_at s at) refl (λ next l. enough n m next (omega arith) (omega arith))

  at_end : (n at : ℕ) → step_at s at ≡ End → walk e b f s n at ≡ e
  at_end zero at q = refl
  at_end (suc n) at q = rw q

  at_bad : (n at : ℕ) → step_at s at ≡ Bad → length s ≤ at + n → walk e b f s n at ≡ b
  at_bad zero at q h = let x = step_end s at (omega arith) in let o : ◌≡◌ {A = ℕ} 0 1 = cc in absurd (omega arith)
  at_bad (suc n) at q h = rw q

  at_found : (n at : ℕ) (a : Attribute) (next : ℕ) → step_at s at ≡ Found a next → length s ≤ at + n → walk e b f s n at ≡ f a (walk e b f s (length s - next) next)
  at_found zero at a next q h = let x = step_end s at (omega arith) in let o : ◌≡◌ {A = ℕ} 0 1 = cc in absurd (omega arith)
  at_found (suc n) at a next q h =
      let l = (step_inv s at a next q).later in
      rw q (ap (f a) (enough n (length s - next) next (omega arith) (omega arith)))

  -- the area ends, no attribute stands there, one is found
  pub walk_end : (at : ℕ) → step_at s at ≡ End → walk_from e b f s at ≡ e
  unfolding walk_from
  walk_end at q = at_end (length s - at) at q

  pub walk_bad : (at : ℕ) → step_at s at ≡ Bad → walk_from e b f s at ≡ b
  unfolding walk_from
  walk_bad at q = at_bad (length s - at) at q (omega arith)

  pub walk-found : (at : ℕ) (a : Attribute) (next : ℕ) → step_at s at ≡ Found a next → walk_from e b f s at ≡ f a (walk_from e b f s next)
  unfolding walk_from
  walk-found at a next q = at_found (length s - at) at a next q (omega arith)

-- ---- a loop over `step_at`: x is the step that was returned, z the whole answer

-- less is left after an attribute
pub advance : (s : List ℕ) (at next : ℕ) (a : Attribute) (x : Step) → x ≡ step_at s at → x ≡ Found a next → length s - next < length s - at
advance s at next a x q r = let p = found_placed s at next a x q r in omega arith

-- what is left from a place on
module _ (s : List ℕ) (at : ℕ) (x : Step) (q : x ≡ step_at s at) where
  pub left_found : (next : ℕ) (a : Attribute) → x ≡ Found a next → attributes_from s at ≡ a ∷ attributes_from s next
  left_found next a r = walk-found _ _ _ s at a next (sym q ∙ r)

  pub left_end : x ≡ End → attributes_from s at ≡ []
  left_end r = walk_end _ _ _ s at (sym q ∙ r)

  pub left_bad : x ≡ Bad → attributes_from s at ≡ []
  left_bad r = walk_bad _ _ _ s at (sym q ∙ r)

-- whether attributes fill it
module _ (s : List ℕ) (z : Bool) (at : ℕ) (x : Step) (i : z ≡ tiled_from s at) (q : x ≡ step_at s at) where
  pub tiles_on : (next : ℕ) (a : Attribute) → x ≡ Found a next → z ≡ tiled_from s next
  tiles_on next a r = i ∙ walk-found _ _ _ s at a next (sym q ∙ r)

  pub tiles_end : x ≡ End → true ≡ z
  tiles_end r = sym (i ∙ walk_end _ _ _ s at (sym q ∙ r))

  pub tiles_bad : x ≡ Bad → false ≡ z
  tiles_bad r = sym (i ∙ walk_bad _ _ _ s at (sym q ∙ r))

-- what each turn of the loop of `attr_walk::tiles` needs
pub ruleset tiling = (advance, tiles_on, tiles_end, tiles_bad)
