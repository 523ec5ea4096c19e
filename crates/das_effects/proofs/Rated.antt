-- The rates from what the pass kept of type 26: where one was counted, the value that is kept is that of the first, so its items are those of the definition.
-- Assumes nothing.
use mathlib.Core.Path.{◌≡◌, refl, sym, ap, subst, ◌∙◌}
use mathlib.Core.Bool.{Bool, true, false, true≢false, false≢true}
use mathlib.Core.List.{List}
use Prim.Native.Nat.{ℕ, ◌^◌, ◌<◌}
use native.Mathlib.Omega.{arith}
use lib.Dec.{lit<}
use Rattle.attr_walk.specs.declared.Attribute.{Attribute}
use Rattle.std.specs.Prelude.{Option, Some, None}
use Rattle.attr_walk.specs.Attributes.{attributes, value_of, found, first_of, kind_is}
use Rattle.attr_vendor.specs.declared.Rates.{Rates}
use Rattle.attr_vendor.specs.declared.Vendor.{Vendor}
use Rattle.attr_vendor.specs.declared.Vendor.TheVariants.{Other, Faulty, Sets}
use Rattle.attr_vendor.specs.Vendor.{unset, vendor_of, vendor_in}
use Rattle.attr_vendor.proofs.Low.{Bytes, LowRate, Low, LowVendor, value_low, vendor_low, unset_low}
use Rattle.attr_survey.specs.declared.counts.Noted.{Noted}
use Rattle.attr_survey.specs.Noted.{noted_at, seen_at}
use Rattle.attr_survey.specs.Survey.{Kept, end_of, size_of}
use Rattle.attr_lookup.specs.Lookup.{kept_value}
use Rattle.attr_lookup.proofs.Values.{kept_attribute, seen_any}
use Rattle.das_effects.specs.Changes.{rates_by, rates_at, rates_named}

first_rates : (area : List ℕ) (noted : List Noted) (z : Option Attribute) → found z ≡ true → (noted_at noted 26).end ≡ end_of z → (noted_at noted 26).size ≡ size_of z
    → rates_by (vendor_of (kept_value area 26 noted)) ≡ rates_at area z
first_rates area noted (Some a) h p q = ap (λ (v : List ℕ). rates_by (vendor_of v)) (kept_attribute area a 26 noted p q)
first_rates area noted None h p q = absurd (false≢true h)

no_rates : (area : List ℕ) (z : Option Attribute) → found z ≡ false → unset ≡ rates_at area z
no_rates area (Some a) h = absurd (true≢false h)
no_rates area None h = refl

module _ (area : List ℕ) (noted : List Noted) (kept : Kept area noted) (b : Bool) (is : b ≡ seen_at noted 26) where
  seen : found (first_of (kind_is 26) (attributes area)) ≡ b
  seen = sym (is ∙ seen_any area noted kept 26 (lit< tt) (λ e. omega arith))

  pub rates_there : b ≡ true → (v : List ℕ) → v ≡ kept_value area 26 noted → (x : Vendor) → x ≡ vendor_of v → (r : Rates) → r ≡ rates_by x → r ≡ rates_named area
  unfolding rates_named
  rates_there h v ev x ex r e =
      let known = kept.types 26 (lit< tt) (λ i. omega arith) in
      e ∙ rw (ex, ev) (first_rates area noted (first_of (kind_is 26) (attributes area)) (seen ∙ h) known.end known.size)

  pub rates_none : b ≡ false → unset ≡ rates_named area
  unfolding rates_named
  rates_none h = no_rates area (first_of (kind_is 26) (attributes area)) (seen ∙ h)

-- ---- of bytes, the rates fit into 32 bits

by_low : (x : Vendor) → LowVendor x → Low (rates_by x)
by_low Other l = unset_low
by_low (Faulty p) l = unset_low
by_low (Sets h) l = l

at_low : (area : List ℕ) (z : Option Attribute) → Bytes area → Low (rates_at area z)
at_low area (Some a) b = by_low (vendor_in area a) (vendor_low (value_of area a) (value_low area a b))
at_low area None b = unset_low

pub named_low : (area : List ℕ) → Bytes area → Low (rates_named area)
unfolding rates_named
named_low area b = at_low area (first_of (kind_is 26) (attributes area)) b

rate_below : (x : Option ℕ) (v : ℕ) → x ≡ Some v → LowRate x → v < 2 ^ 32
rate_below x v e l = subst LowRate e l

module _ (area : List ℕ) (v : ℕ) (b : Bytes area) where
  pub down_below : (rates_named area).down ≡ Some v → v < 2 ^ 32
  down_below e = rate_below (rates_named area).down v e (named_low area b).down

  pub up_below : (rates_named area).up ≡ Some v → v < 2 ^ 32
  up_below e = rate_below (rates_named area).up v e (named_low area b).up
