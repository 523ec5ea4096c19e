-- The value of an attribute: the bytes of the whole attribute from the third on, none of no attribute.
-- Assumes nothing.
use mathlib.Core.Path.{◌≡◌, refl, ◌∙◌}
use mathlib.Core.List.{List, []}
use Prim.Native.Nat.{ℕ, ◌+◌, ◌-◌, ◌≤◌, ◌<◌}
use native.Mathlib.Omega.{arith}
use lib.ListN.{length, take, drop, length-take}
use lib.Seq.{take_all, drop-drop}
use Rattle.octet_numbers.specs.Runs.{part}
use Rattle.octet_numbers.proofs.Part.{drop-take}
use Rattle.attr_walk.specs.declared.Attribute.{Attribute}
use Rattle.attr_walk.specs.declared.Step.{Step}
use Rattle.attr_walk.specs.declared.Step.TheVariants.{Found, End, Bad}
use Rattle.attr_walk.specs.Attributes.{step_at, on_step, value_of, value_at, nothing, standing}

-- of the bytes w of the whole attribute, those after type and length: an attribute has at most 255 bytes
pub value_of_lem : (s w r : List ℕ) (a : Attribute) → w ≡ part a.at a.size s → r ≡ part 2 253 w → a.size < 256 → r ≡ value_of s a
unfolding part value_of
value_of_lem s w r a e g h =
    let low : length (take (a.size - 2) (drop (a.at + 2) s)) ≤ 253 = simp length-take (omega arith) in
    g ∙ rw (e, drop-take 2 a.size (drop a.at s), drop-drop 2 a.at s) (take_all 253 (take (a.size - 2) (drop (a.at + 2) s)) low)

-- ---- the attribute that a step found

value_none : (s : List ℕ) → value_of s nothing ≡ []
unfolding part value_of
value_none s = refl

by_step : (s : List ℕ) (x : Step) → value_of s (standing x) ≡ on_step [] [] (λ a next. value_of s a) x
by_step s (Found a next) = refl
by_step s End = value_none s
by_step s Bad = value_none s

-- its value is that of the attribute at the place
pub value_standing : (s : List ℕ) (at : ℕ) → value_of s (standing (step_at s at)) ≡ value_at s at
value_standing s at = by_step s (step_at s at)
