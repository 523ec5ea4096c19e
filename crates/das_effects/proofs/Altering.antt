-- The change of a request, from what the pass kept of 27, 28 and 11: the value kept of a type is that of the first, and a number lies in the area.
-- Assumes nothing.
use mathlib.Core.Path.{◌≡◌, refl, sym, ◌∙◌}
use mathlib.Core.Bool.{true, false}
use mathlib.Core.List.{List}
use Prim.Native.Nat.{ℕ, ◌+◌, ◌<◌, ◌≤◌}
use native.Mathlib.Omega.{arith}
use lib.Dec.{lit<}
use lib.ListN.{length}
use Rattle.std.specs.Prelude.{Option, Some, None}
use Rattle.std.specs.Option.{option_map}
use Rattle.octet_numbers.specs.Numbers.{be}
use Rattle.octet_numbers.specs.Runs.{member}
use Rattle.octet_runs.specs.declared.span.Span.{Span}
use Rattle.attr_walk.specs.declared.Attribute.{Attribute}
use Rattle.attr_walk.specs.Attributes.{attributes, any, first_of, kind_is}
use Rattle.attr_walk.proofs.Stands.{first_placed}
use Rattle.attr_types.specs.Types.{six_types, misfitting}
use Rattle.attr_survey.specs.declared.counts.Noted.{Noted}
use Rattle.attr_survey.specs.Survey.{Kept}
use Rattle.attr_vendor.specs.declared.Rates.{Rates}
use Rattle.rule_causes.proofs.Passed.{first_six}
use Rattle.das_effects.specs.Changes.{rates_named, number_at, text_at, alteration_of}
use Rattle.das_effects.specs.Taken.{taken_value, taken_number}
use Rattle.das_effects.proofs.Values.{value_kept}

number_in : (area : List ℕ) (z : Option Attribute) → option_map (λ v. be v.at 4 area) (text_at z) ≡ number_at area z
number_in area (Some a) = refl
number_in area None = refl

module _ (area : List ℕ) (noted : List Noted) (kept : Kept area noted) where
  number_kept : (k : ℕ) → k < 256 → (k ≡ 33 → ⊥) → taken_number area k noted ≡ number_at area (first_of (kind_is k) (attributes area))
  number_kept k h n = rw (value_kept area noted kept k h n) (number_in area (first_of (kind_is k) (attributes area)))

  -- a number of length 6 lies in the area
  six_inside : (k : ℕ) (z : Option Attribute) → z ≡ first_of (kind_is k) (attributes area) → any misfitting (attributes area) ≡ false
      → member k six_types ≡ true → (v : Span) → text_at z ≡ Some v → v.at + 4 ≤ length area
  six_inside k (Some a) e misfit six v h =
      let size = first_six area k a misfit (sym e) six in
      let inside = (first_placed (kind_is k) area (Some a) a e refl).inside in
      let place : a.at + 2 ≡ v.at = cc in
      omega arith
  six_inside k None e misfit six v h = absurd (cc)

  number_inside : (k : ℕ) → k < 256 → (k ≡ 33 → ⊥) → any misfitting (attributes area) ≡ false → member k six_types ≡ true
      → (v : Span) → taken_value k noted ≡ Some v → v.at + 4 ≤ length area
  number_inside k h n misfit six v e =
      six_inside k (first_of (kind_is k) (attributes area)) refl misfit six v (sym (value_kept area noted kept k h n) ∙ e)

  pub timeout_inside : any misfitting (attributes area) ≡ false → (v : Span) → taken_value 27 noted ≡ Some v → v.at + 4 ≤ length area
  timeout_inside misfit = number_inside 27 (lit< tt) (λ i. omega arith) misfit refl

  pub idle_inside : any misfitting (attributes area) ≡ false → (v : Span) → taken_value 28 noted ≡ Some v → v.at + 4 ≤ length area
  idle_inside misfit = number_inside 28 (lit< tt) (λ i. omega arith) misfit refl

  pub altered_as : (x y : Option ℕ) (z : Option Span) (r : Rates) → x ≡ taken_number area 27 noted → y ≡ taken_number area 28 noted
      → z ≡ taken_value 11 noted → r ≡ rates_named area
      → record { timeout = x; idle = y; filter = z; down = r.down; up = r.up } ≡ alteration_of area
  unfolding alteration_of
  altered_as x y z r e g h i =
      rw (
        e ∙ number_kept 27 (lit< tt) (λ i. omega arith),
        g ∙ number_kept 28 (lit< tt) (λ i. omega arith),
        h ∙ value_kept area noted kept 11 (lit< tt) (λ i. omega arith),
        i,
      )
