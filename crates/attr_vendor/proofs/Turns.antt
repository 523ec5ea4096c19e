-- The ways through one item and through a list of items, each in the shape of what the code knows there: an item's own test decides, and a list goes on after a good
-- item and stops at a fault. A group is a list in what stands before its end.
-- Assumes nothing.
use mathlib.Core.Path.{◌≡◌, refl, sym, ap, ◌∙◌}
use mathlib.Core.List.{List}
use Prim.Native.Nat.{ℕ, zero, suc, ◌+◌, ◌-◌, ◌≤◌}
use native.Mathlib.Omega.{arith}
use native.Mathlib.Numerals.{sub-one}
use native.Mathlib.Nat.{min-eq_left}
use lib.ListN.{length, take, length-take}
use borrow.Author.Tests.{eq-eqb, ne_eqb}
use Rattle.attr_walk.specs.declared.Attribute.{Attribute}
use Rattle.attr_walk.specs.declared.Step.{Step}
use Rattle.attr_walk.specs.declared.Step.TheVariants.{Found, End}
use Rattle.attr_walk.specs.declared.Step.TheVariants as step
use Rattle.attr_walk.specs.Attributes.{step_at}
use Rattle.attr_walk.proofs.Steps.{found_placed}
use Rattle.attr_walk.proofs.Walks.{walk_end, walk_bad, walk-found, advance}
use Rattle.std.specs.Prelude.{Result, Ok, Err}
use Rattle.attr_vendor.specs.declared.Rates.{Rates}
use Rattle.attr_vendor.specs.Vendor.{rate_of, item_of, items_from, group_in}

-- ---- any item

opened : (s : List ℕ) (a : Attribute) (h : Rates) (n : ℕ) → (n ≡ 0 → ⊥)
    → items_from (group_in (n - 1) (take (a.at + a.size) s)) (take (a.at + a.size) s) (a.at + 2) h ≡ group_in n s a h
unfolding group_in
opened s a h zero z = absurd (z refl)
opened s a h (suc n) z = rw sub-one

module _ (s : List ℕ) (a : Attribute) (n : ℕ) (h : Rates) where
  -- a group where none may be opened
  pub item_deep : a.kind ≡ 3 → n ≡ 0 → Err a.at ≡ item_of (group_in n s) s a h
  unfolding item_of group_in
  item_deep k z = simp (eq-eqb _ _ k, z)

  -- a group that is opened
  pub item_group : (r : Result Rates ℕ) → a.kind ≡ 3 → (n ≡ 0 → ⊥)
      → r ≡ items_from (group_in (n - 1) (take (a.at + a.size) s)) (take (a.at + a.size) s) (a.at + 2) h
      → r ≡ item_of (group_in n s) s a h
  unfolding item_of
  item_group r k z e = simp (eq-eqb _ _ k) (e ∙ opened s a h n z)

  pub item_rate : (r : Result Rates ℕ) → (a.kind ≡ 3 → ⊥) → r ≡ rate_of s a h → r ≡ item_of (group_in n s) s a h
  unfolding item_of
  item_rate r k e = simp (ne_eqb _ _ k) e

-- ---- a list of items: z is the whole answer, x what stands at the place, y what the item gave

module _ (g : Attribute → Rates → Result Rates ℕ) (s : List ℕ) (z : Result Rates ℕ) (at : ℕ) (h : Rates) (x : Step)
    (i : z ≡ items_from g s at h) (q : x ≡ step_at s at) where
  pub items_end : x ≡ End → Ok h ≡ z
  unfolding items_from
  items_end r = sym (i ∙ ap (λ (f : ℕ → Rates → Result Rates ℕ). f at h) (walk_end _ _ _ s at (sym q ∙ r)))

  pub items_bad : x ≡ step.Bad → Err at ≡ z
  unfolding items_from
  items_bad r = sym (i ∙ ap (λ (f : ℕ → Rates → Result Rates ℕ). f at h) (walk_bad _ _ _ s at (sym q ∙ r)))

  pub items_fault : (a : Attribute) (next : ℕ) (y : Result Rates ℕ) (p : ℕ) → x ≡ Found a next → y ≡ item_of g s a h → y ≡ Err p → Err p ≡ z
  unfolding items_from
  items_fault a next y p r e f = sym (i ∙ ap (λ (f : ℕ → Rates → Result Rates ℕ). f at h) (walk-found _ _ _ s at a next (sym q ∙ r)) ∙ rw (← e, f))

  pub items_on : (a : Attribute) (next : ℕ) (y : Result Rates ℕ) (h' : Rates) → x ≡ Found a next
      → y ≡ item_of g s a h → y ≡ Ok h' → z ≡ items_from g s next h'
  unfolding items_from
  items_on a next y h' r e f =
      let p = found_placed s at next a x q r in
      i ∙ ap (λ (f : ℕ → Rates → Result Rates ℕ). f at h) (walk-found _ _ _ s at a next (sym q ∙ r)) ∙ rw (← e, f, p.ends)

-- ---- where an item stands

-- what stands before its end is as long
pub cut : (s : List ℕ) (n : ℕ) → n ≤ length s → n ≡ length (take n s)
cut s n h = sym (length-take n s ∙ min-eq_left h)

module _ (s : List ℕ) (at next : ℕ) (a : Attribute) (x : Step) (q : x ≡ step_at s at) (r : x ≡ Found a next) where
  pub item_inside : a.at + a.size ≤ length s
  item_inside = let p = found_placed s at next a x q r in omega arith

  pub item_two : 2 ≤ a.size
  item_two = (found_placed s at next a x q r).two

-- ---- what the two functions need

pub ruleset one_item = (item_deep, item_group, item_rate, cut)

pub ruleset item_list = (advance, item_inside, item_two, items_fault, items_end, items_bad)
