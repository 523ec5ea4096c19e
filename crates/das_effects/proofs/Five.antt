-- Each of the five types that name a session asks by itself: at most one of their tests holds of an attribute, so all attributes ask what those of each type ask.
-- Assumes nothing.
use mathlib.Core.Path.{◌≡◌, refl, sym, ap, ◌∙◌}
use mathlib.Core.Bool.{Bool, true, false, cond, not, ◌&&◌, ◌||◌, and-true, or-false}
use mathlib.Core.List.{List, [], ◌∷◌}
use Prim.Native.Nat.{ℕ}
use lib.Dec.{eqb}
use borrow.Author.Tests.{eqb-true}
use Rattle.attr_walk.specs.declared.Attribute.{Attribute}
use Rattle.std.specs.Prelude.{Option, Some}
use Rattle.attr_walk.specs.Attributes.{any, found, first_of}
use Rattle.octet_numbers.specs.Runs.{member}
use Rattle.attr_types.specs.Types.{naming_types}
use Rattle.table_criteria.specs.declared.Field.{Field}
use Rattle.table_criteria.specs.declared.Field.TheVariants.{UserName, NasPort, FramedAddress, CallingStation, SessionId}
use Rattle.das_effects.specs.Matching.{field_for, all_of}

-- where the test of a type holds, those of the types after it do not
split : (b m : Bool) (f : Field → Bool) (x y : Field) → (b ≡ true → m ≡ false) → cond (b || m) (f (cond b x y)) true ≡ (cond b (f x) true && cond m (f y) true)
split true m f x y h = rw (h refl) (sym (and-true (f x)))
split false m f x y h = refl

-- what type k asks by f of its field
abbrev pub asks : ℕ → (Field → Bool) → ℕ → Field → Bool
asks j f k x = cond (eqb j k) (f x) true

-- the tests of five types, of which at most one holds
pub five : (j : ℕ) (f : Field → Bool)
    → cond (member j naming_types) (f (field_for j)) true ≡ (asks j f 1 UserName && (asks j f 5 NasPort && (asks j f 8 FramedAddress && (asks j f 31 CallingStation && asks j f 44 SessionId))))
unfolding field_for
five j f =
    split (eqb j 1) _ f UserName _ (λ e. rw (eqb-true j 1 e))
    ∙ ap (λ (b : Bool). asks j f 1 UserName && b)
    (split (eqb j 5) _ f NasPort _ (λ e. rw (eqb-true j 5 e))
    ∙ ap (λ (b : Bool). asks j f 5 NasPort && b)
    (split (eqb j 8) _ f FramedAddress _ (λ e. rw (eqb-true j 8 e))
    ∙ ap (λ (b : Bool). asks j f 8 FramedAddress && b) (split (eqb j 31) (eqb j 44 || false) f CallingStation SessionId (λ e. rw (eqb-true j 31 e)) ∙ rw (or-false (eqb j 44)))))

-- ---- all attributes

pub all_same : (f g : Attribute → Bool) (l : List Attribute) → ((a : Attribute) → f a ≡ g a) → all_of f l ≡ all_of g l
all_same f g [] e = refl
all_same f g (a ∷ l) e = rw (e a, all_same f g l e)

swap : (a b c d : Bool) → (a && b) && (c && d) ≡ (a && c) && (b && d)
swap true true c d = refl
swap true false true d = refl
swap true false false d = refl
swap false b c d = refl

pub all_both : (f g : Attribute → Bool) (l : List Attribute) → all_of (λ a. f a && g a) l ≡ (all_of f l && all_of g l)
all_both f g [] = refl
all_both f g (a ∷ l) = rw (all_both f g l) (swap (f a) (g a) (all_of f l) (all_of g l))

none_by : (b c r : Bool) (a : Attribute) (x : Option Attribute) → r ≡ not (found x) → (cond b c true && r) ≡ not (found (cond (b && not c) (Some a) x))
none_by true true r a x e = e
none_by true false r a x e = refl
none_by false c r a x e = e

pub all_none : (p q : Attribute → Bool) (l : List Attribute) → all_of (λ a. cond (p a) (q a) true) l ≡ not (any (λ a. p a && not (q a)) l)
all_none p q [] = refl
all_none p q (a ∷ l) = none_by (p a) (q a) (all_of (λ b. cond (p b) (q b) true) l) a (first_of (λ b. p b && not (q b)) l) (all_none p q l)
