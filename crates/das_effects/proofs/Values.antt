-- Where the value of the first attribute of a type lies, from what the pass kept of it: its end less its length is its place.
-- Assumes nothing.
use mathlib.Core.Path.{◌≡◌}
use mathlib.Core.Bool.{Bool, cond}
use mathlib.Core.List.{List}
use Prim.Native.Nat.{ℕ, ◌+◌, ◌-◌, ◌<◌}
use native.Mathlib.Omega.{arith}
use Rattle.std.specs.Prelude.{Option, Some, None}
use Rattle.octet_runs.specs.declared.span.Span.{Span}
use Rattle.attr_walk.specs.declared.Attribute.{Attribute}
use Rattle.attr_walk.specs.Attributes.{attributes, found, first_of, kind_is}
use Rattle.attr_survey.specs.declared.counts.Noted.{Noted}
use Rattle.attr_survey.specs.Noted.{noted_at, seen_at}
use Rattle.attr_survey.specs.Survey.{Kept, end_of, size_of}
use Rattle.attr_lookup.proofs.Values.{seen_any}
use Rattle.das_effects.specs.Changes.{text_at}
use Rattle.das_effects.specs.Taken.{taken_value}

abbrev run : ℕ → ℕ → Span
run end size = record { at = end - size + 2; size = size - 2 }

value_in : (z : Option Attribute) (b : Bool) (end size : ℕ) → b ≡ found z → end ≡ end_of z → size ≡ size_of z
    → cond b (Some (run end size)) None ≡ text_at z
value_in (Some a) b end size h e g = let o : end - size ≡ a.at = omega arith in rw (h, o, g)
value_in None b end size h e g = rw h

pub value_kept : (area : List ℕ) (noted : List Noted) → Kept area noted → (k : ℕ) → k < 256 → (k ≡ 33 → ⊥)
    → taken_value k noted ≡ text_at (first_of (kind_is k) (attributes area))
unfolding taken_value
value_kept area noted kept k h n =
    let known = kept.types k h n in
    let x = noted_at noted k in
    value_in (first_of (kind_is k) (attributes area)) (seen_at noted k) x.end x.size (seen_any area noted kept k h n) known.end known.size
