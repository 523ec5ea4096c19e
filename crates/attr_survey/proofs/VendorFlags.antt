-- What the Vendor-Specific attributes add to the flags: one after the other they join their answers, so all of them join whether any says so. Where the pass
-- counted none, none says anything.
-- Assumes nothing.
use mathlib.Core.Path.{◌≡◌, refl, sym, ap, ◌∙◌}
use mathlib.Core.Bool.{Bool, true, false, cond, ◌&&◌, ◌||◌, or_assoc, or-false}
use mathlib.Core.List.{List, [], ◌∷◌}
use Prim.Native.Nat.{ℕ}
use native.Mathlib.Omega.{arith}
use borrow.Author.Tests.{eq-eqb, ne_eqb}
use lib.Dec.{lit<}
use Rattle.std.specs.Prelude.{Option, Some}
use Rattle.attr_walk.specs.declared.Attribute.{Attribute}
use Rattle.attr_walk.specs.declared.Step.{Step}
use Rattle.attr_walk.specs.declared.Step.TheVariants.{Found, End, Bad}
use Rattle.attr_walk.specs.Attributes.{step_at, attributes, attributes_from, value_of, any, found, first_of, kind_is}
use Rattle.attr_walk.proofs.Walks.{walk_end, walk_bad, walk-found}
use Rattle.attr_walk.proofs.Searches.{any_or, none_both}
use Rattle.attr_vendor.specs.declared.Vendor.{Vendor}
use Rattle.attr_vendor.specs.Vendor.{vendor_of, vendor_in, is_other, is_faulty, sets_rate, other_vendor, faulty_vendor, sets_rate_in}
use Rattle.attr_types.specs.Types.{unsupported_type, misfitting, among, changing_types}
use Rattle.attr_survey.specs.declared.counts.Noted.{Noted}
use Rattle.attr_survey.specs.Noted.{noted_at}
use Rattle.attr_survey.specs.declared.Flags.{Flags}
use Rattle.attr_survey.specs.Survey.{Kept, Typed, Flagged}
use Rattle.attr_survey.specs.Vendors.{vendor_joined, vendor_turned, vendors_joined}
use Rattle.attr_survey.proofs.UpToTwo.{two_none}

-- ---- one attribute

pub told_flags : (f : Flags) (x : Vendor) (a b c u m g : Bool) → a ≡ is_other x → u ≡ (f.unsupported || a) → b ≡ is_faulty x → m ≡ (f.misfit || b) → c ≡ sets_rate x → g ≡ (f.change || c)
    → record { tiled = f.tiled; unsupported = u; service = f.service; repeated = f.repeated; misfit = m; criterion = f.criterion; change = g } ≡ vendor_joined x f
told_flags f x a b c u m g p q r t i j = rw (q, p, t, r, j, i)

module _ (f : Flags) (s : List ℕ) (a : Attribute) where
  pub turned_vendor : a.kind ≡ 26 → (v : List ℕ) → v ≡ value_of s a → (x : Vendor) → x ≡ vendor_of v → (r : Flags) → r ≡ vendor_joined x f → r ≡ vendor_turned s a f
  turned_vendor k v ev x ex r e = e ∙ rw (eq-eqb a.kind 26 k, ex, ev)

  pub turned_plain : (a.kind ≡ 26 → ⊥) → f ≡ vendor_turned s a f
  turned_plain k = rw (ne_eqb a.kind 26 k, or-false, or-false, or-false)

-- ---- all of them, from the first on

found-cond : (b : Bool) (a : Attribute) (x : Option Attribute) → found (cond b (Some a) x) ≡ (b || found x)
found-cond true a x = refl
found-cond false a x = refl

any_head : (p : Attribute → Bool) (a : Attribute) (l : List Attribute) (u : Bool) → (u || any p (a ∷ l)) ≡ ((u || p a) || any p l)
any_head p a l u = ap (λ (b : Bool). u || b) (found-cond (p a) a (first_of p l)) ∙ sym (or_assoc u (p a) (any p l))

head_joins : (s : List ℕ) (a : Attribute) (l : List Attribute) (f : Flags) → vendors_joined s (a ∷ l) f ≡ vendors_joined s l (vendor_turned s a f)
head_joins s a l f = rw (any_head (other_vendor s) a l f.unsupported, any_head (faulty_vendor s) a l f.misfit, any_head (sets_rate_in s) a l f.change)

none_joins : (s : List ℕ) (f : Flags) → vendors_joined s [] f ≡ f
none_joins s f = rw (or-false, or-false, or-false)

-- w is the flags of all; f what those before place `at` gave
module _ (s : List ℕ) (w f : Flags) (at : ℕ) (i : w ≡ vendors_joined s (attributes_from s at) f) (x : Step) (q : x ≡ step_at s at) where
  pub vendors_next : (a : Attribute) (next : ℕ) → x ≡ Found a next → (g : Flags) → g ≡ vendor_turned s a f → w ≡ vendors_joined s (attributes_from s next) g
  vendors_next a next r g e =
      i
      ∙ ap (λ (l : List Attribute). vendors_joined s l f) (walk-found _ _ _ s at a next (sym q ∙ r))
      ∙ head_joins s a (attributes_from s next) f
      ∙ ap (vendors_joined s (attributes_from s next)) (sym e)

  none_left : attributes_from s at ≡ [] → f ≡ w
  none_left e = sym (i ∙ ap (λ (l : List Attribute). vendors_joined s l f) e ∙ none_joins s f)

  pub vendors_end : x ≡ End → f ≡ w
  vendors_end r = none_left (walk_end _ _ _ s at (sym q ∙ r))

  pub vendors_bad : x ≡ Bad → f ≡ w
  vendors_bad r = none_left (walk_bad _ _ _ s at (sym q ∙ r))

-- ---- so the flags of types become those of the rules

module _ (s : List ℕ) (code : ℕ) (f : Flags) (t : Typed s code f) where
  pub flagged_vendors : (g : Flags) → g ≡ vendors_joined s (attributes s) f → Flagged s code g
  flagged_vendors g e =
      rw e
      record {
        tiles = t.tiles;
        unsupported = rw t.unsupported (sym (any_or (unsupported_type code) (other_vendor s) (attributes s)));
        service = t.service;
        repeated = t.repeated;
        misfit = rw t.misfit (sym (any_or misfitting (faulty_vendor s) (attributes s)));
        criterion = t.criterion;
        change = rw t.change (sym (any_or (among changing_types) (sets_rate_in s) (attributes s)));
      }

  pub flagged_none : (noted : List Noted) → Kept s noted → (noted_at noted 26).number ≡ 0 → Flagged s code f
  flagged_none noted kept z =
      flagged_vendors f (sym (rw (says (λ a. is_other (vendor_in s a)), says (λ a. is_faulty (vendor_in s a)), says (λ a. sets_rate (vendor_in s a)), or-false, or-false, or-false)))
    where
      says : (p : Attribute → Bool) → any (λ a. kind_is 26 a && p a) (attributes s) ≡ false
      says p = none_both (kind_is 26) p (attributes s) (two_none _ (sym (kept.types 26 (lit< tt) (λ e. omega arith)).number ∙ z))
