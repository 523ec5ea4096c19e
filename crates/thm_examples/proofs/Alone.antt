-- Types 55 and 33 alone: attributes do not share bytes and each takes two or more, so where those of types 55 and 33 take all bytes of an area there
-- is no other type; and what no attribute of types 55 and 33 meets, none of the area does. Assumes nothing.
use mathlib.Core.Path.{◌≡◌, refl, ap, ◌∙◌}
use mathlib.Core.Bool.{Bool, true, false, cond, not, ◌&&◌, ◌||◌, true≢false}
use mathlib.Core.List.{List, [], ◌∷◌, Memᴰ}
use Prim.Native.Nat.{ℕ, ◌+◌, ◌≤◌}
use native.Mathlib.Omega.{arith}
use borrow.Author.Tests.{eqb-true}
use lib.Dec.{eqb}
use lib.ListN.{length}
use Rattle.attr_walk.specs.declared.Attribute.{Attribute}
use Rattle.std.specs.Prelude.{Option, Some}
use Rattle.attr_walk.specs.declared.Step.TheVariants.{Found}
use Rattle.attr_walk.specs.Attributes.{step_at, attributes, any, found, first_of, kind_is}
use Rattle.attr_walk.proofs.Steps.{step_inv}
use Rattle.attr_walk.proofs.Stands.{member_stands}
use Rattle.attr_walk.proofs.Searches.{any_or}
use Rattle.das_reply.proofs.Sums.{total, sum_of, total_fits}
use Rattle.thm_examples.specs.Sizes.{bytes_of_type, empty_of}

-- the same sum
bytes_sum : (k : ℕ) (l : List Attribute) → sum_of (kind_is k) l ≡ bytes_of_type k l
bytes_sum k [] = refl
bytes_sum k (a ∷ l) = ap (λ (n : ℕ). cond (kind_is k a) a.size 0 + n) (bytes_sum k l)

-- ---- no other type

abbrev pub other : Attribute → Bool
other a = not (kind_is 55 a || kind_is 33 a)

one : (k z : ℕ) (s t : Bool) → eqb k 55 ≡ s → eqb k 33 ≡ t → cond t z 0 + cond s z 0 + cond (not (s || t)) z 0 ≤ z
one k z true true e f = absurd (omega (arith, eqb-true k 55 e, eqb-true k 33 f))
one k z true false e f = omega arith
one k z false true e f = omega arith
one k z false false e f = omega arith

three_sums : (l : List Attribute) → sum_of (kind_is 33) l + sum_of (kind_is 55) l + sum_of other l ≤ total l
three_sums [] = omega arith
three_sums (a ∷ l) = omega (arith, one a.kind a.size _ _ refl refl, three_sums l)

-- an attribute of the area, two bytes or more
abbrev Standing : List ℕ → List Attribute → Type 0
Standing s l = (a : Attribute) → Memᴰ a l → step_at s a.at ≡ Found a (a.at + a.size)

no_bytes : (a : Attribute) (x : Option Attribute) (t : Bool) (n : ℕ) → 2 ≤ a.size → cond t a.size 0 + n ≡ 0 → (n ≡ 0 → found x ≡ false)
    → found (cond t (Some a) x) ≡ false
no_bytes a x true n h e ih = absurd (omega arith)
no_bytes a x false n h e ih = ih (omega arith)

sum_none : (q : Attribute → Bool) (s : List ℕ) (l : List Attribute) → Standing s l → sum_of q l ≡ 0 → any q l ≡ false
sum_none q s [] f e = refl
sum_none q s (a ∷ l) f e =
    let p = step_inv s a.at a (a.at + a.size) (f a (Memᴰ.head refl)) in
    no_bytes a (first_of q l) (q a) (sum_of q l) p.two e (sum_none q s l (λ b m. f b (Memᴰ.tail m)))

-- the area has n + 6 bytes, n of them of type 33, and 6 or more are of type 55
pub no_other : (s : List ℕ) (n : ℕ) → length s ≡ n + 6 → bytes_of_type 33 (attributes s) ≡ n → 6 ≤ sum_of (kind_is 55) (attributes s)
    → any other (attributes s) ≡ false
no_other s n h e g =
    let l = attributes s in
    sum_none other s l (λ a m. member_stands s 0 a m) (omega (arith, bytes_sum 33 l, three_sums l, total_fits s))

-- ---- what types 55 and 33 do not meet

abbrev pub strange : Attribute → Bool
strange a = other a || empty_of 33 a

pub none_strange : (l : List Attribute) → any other l ≡ false → any (empty_of 33) l ≡ false → any strange l ≡ false
none_strange l h g = any_or other (empty_of 33) l ∙ rw (h, g)

module _ (q : Attribute → Bool) (at-55 : (a : Attribute) → a.kind ≡ 55 → q a ≡ false)
    (at-33 : (a : Attribute) → a.kind ≡ 33 → eqb a.size 2 ≡ false → q a ≡ false) where
  meets-not : (a : Attribute) (s t e : Bool) → kind_is 55 a ≡ s → kind_is 33 a ≡ t → eqb a.size 2 ≡ e → (not (s || t) || (t && e)) ≡ false
      → q a ≡ false
  meets-not a true t e i j k h = at-55 a (eqb-true a.kind 55 i)
  meets-not a false true false i j k h = at-33 a (eqb-true a.kind 33 j) k
  meets-not a false true true i j k h = absurd (true≢false h)
  meets-not a false false e i j k h = absurd (true≢false h)

  by_head : (a : Attribute) (x y : Option Attribute) (t : Bool) → strange a ≡ t → (found x ≡ false → found y ≡ false)
      → found (cond t (Some a) x) ≡ false → found (cond (q a) (Some a) y) ≡ false
  by_head a x y true e ih h = absurd (true≢false h)
  by_head a x y false e ih h = rw (meets-not a _ _ _ refl refl refl e) (ih h)

  pub none-meets : (l : List Attribute) → any strange l ≡ false → any q l ≡ false
  none-meets [] h = refl
  none-meets (a ∷ l) h = by_head a (first_of strange l) (first_of q l) (strange a) refl (none-meets l) h
