-- What stands at a place, by the tests that the code makes, and where a found attribute stands. Each case is one way through the definition's two tests.
-- Assumes nothing.
use mathlib.Core.Path.{◌≡◌, refl, sym, ◌∙◌}
use mathlib.Core.Bool.{Bool, true, false, cond, ◌&&◌}
use mathlib.Core.List.{List}
use Prim.Native.Nat.{ℕ, ◌+◌, ◌-◌, ◌≤◌, ◌<◌}
use native.Mathlib.Omega.{arith}
use lib.ListN.{length, get_or}
use lib.Dec.{leb}
use borrow.Author.Tests.{le-leb, lt-leb, leb-true, leb-false}
use Rattle.attr_walk.specs.declared.Attribute.{Attribute}
use Rattle.attr_walk.specs.declared.Step.{Step}
use Rattle.attr_walk.specs.declared.Step.TheVariants.{Found, End, Bad}
use Rattle.attr_walk.specs.Attributes.{step_at, length_at}

pub step_end : (s : List ℕ) (at : ℕ) → length s ≤ at → step_at s at ≡ End
unfolding step_at
step_end s at h = simp (le-leb _ _ h)

pub step-found : (s : List ℕ) (at : ℕ) → at < length s → 2 ≤ length_at s at → length_at s at ≤ length s - at
    → step_at s at ≡ Found (record { kind = get_or s at 0; at = at; size = length_at s at }) (at + length_at s at)
unfolding step_at
step-found s at h k l = simp (lt-leb _ _ h, le-leb _ _ k, le-leb _ _ l)

-- where a found attribute stands
pub record Placed (s : List ℕ) (at : ℕ) (a : Attribute) (next : ℕ) : Type 0 where
  pub kind : a.kind ≡ get_or s at 0
  pub place : a.at ≡ at
  pub size : a.size ≡ length_at s at
  pub ends : a.at + a.size ≡ next
  pub two : 2 ≤ a.size
  pub later : at < next
  pub inside : next ≤ length s

placed : (s : List ℕ) (at : ℕ) (a : Attribute) (next : ℕ) (x y z : Bool)
    → leb (length s) at ≡ x → leb 2 (length_at s at) ≡ y → leb (length_at s at) (length s - at) ≡ z
    → cond x End (cond (y && z) (Found (record { kind = get_or s at 0; at = at; size = length_at s at }) (at + length_at s at)) Bad) ≡ Found a next
    → Placed s at a next
placed s at a next true y z p q r e = let o : ◌≡◌ {A = ℕ} 0 1 = cc in absurd (omega arith)
placed s at a next false false z p q r e = let o : ◌≡◌ {A = ℕ} 0 1 = cc in absurd (omega arith)
placed s at a next false true false p q r e = let o : ◌≡◌ {A = ℕ} 0 1 = cc in absurd (omega arith)
placed s at a next false true true p q r e =
    let i : record { kind = get_or s at 0; at = at; size = length_at s at } ≡ a = cc in
    let n : at + length_at s at ≡ next = cc in
    let two : 2 ≤ length_at s at = leb-true _ _ q in
    let fit : length_at s at ≤ length s - at = leb-true _ _ r in
    let low : at < length s = leb-false _ _ p in
    rw (← i) record { kind = refl; place = refl; size = refl; ends = n; two = two; later = omega arith; inside = omega arith }

pub step_inv : (s : List ℕ) (at : ℕ) (a : Attribute) (next : ℕ) → step_at s at ≡ Found a next → Placed s at a next
unfolding step_at
step_inv s at a next e = placed s at a next _ _ _ refl refl refl e

-- where the area ends
ended : (s : List ℕ) (at : ℕ) (x y : Bool) (a : Attribute) (next : ℕ) → leb (length s) at ≡ x → cond x End (cond y (Found a next) Bad) ≡ End → length s ≤ at
ended s at true y a next p e = leb-true _ _ p
ended s at false true a next p e = let o : ◌≡◌ {A = ℕ} 0 1 = cc in absurd (omega arith)
ended s at false false a next p e = let o : ◌≡◌ {A = ℕ} 0 1 = cc in absurd (omega arith)

pub end_inv : (s : List ℕ) (at : ℕ) → step_at s at ≡ End → length s ≤ at
unfolding step_at
end_inv s at e =
    ended s at (leb (length s) at) (leb 2 (length_at s at) && leb (length_at s at) (length s - at)) (record { kind = get_or s at 0; at = at; size = length_at s at }) (at + length_at s at) refl e

-- the same of the step x that `step_at` returned
pub found_placed : (s : List ℕ) (at next : ℕ) (a : Attribute) (x : Step) → x ≡ step_at s at → x ≡ Found a next → Placed s at a next
found_placed s at next a x q r = step_inv s at a next (sym q ∙ r)
