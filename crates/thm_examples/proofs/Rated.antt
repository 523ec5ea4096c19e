-- The example of a rate: the items are read by the definition, which computes, and a CoA writes what they set.
-- Assumes nothing.
use mathlib.Core.Path.{◌≡◌, refl, ap, ◌∙◌}
use mathlib.Core.Bool.{true}
use mathlib.Core.List.{List, [], ◌∷◌}
use Prim.Native.Nat.{ℕ, ◌<◌}
use native.Mathlib.Omega.{arith}
use lib.IntN.{ℤ}
use Rattle.octet_numbers.specs.Numbers.{be}
use Rattle.attr_walk.specs.declared.Attribute.{Attribute}
use Rattle.std.specs.Prelude.{Some, None}
use Rattle.attr_walk.specs.Attributes.{step_at, walk_from, attributes, value_of, first_of, kind_is}
use Rattle.attr_vendor.specs.declared.Rates.{Rates}
use Rattle.attr_vendor.specs.Vendor.{rate_of, item_of, items_from, group_in, vendor_of}
use Rattle.table_slots.specs.Slot.{slot_count, slot, down_rate, up_rate}
use Rattle.packet_form.specs.Packet.{code_of, area_of}
use Rattle.nas_settings.specs.Settings.{Settings}
use Rattle.das_effects.specs.Matching.{matches_in}
use Rattle.das_effects.specs.Changes.{rates_by, rates_at, rates_named, change_matching}
use Rattle.das_effects.proofs.Altered as E
use Rattle.das_answer.specs.declared.Answer.TheVariants.{Ack}
use Rattle.das_handle.specs.Handle.{handle_answer, table_as, handle_table}

abbrev bytes : List ℕ
bytes = 0x00 ∷ 0x00 ∷ 0x7E ∷ 0xD9 ∷ 0x03 ∷ 0x08 ∷ 0x01 ∷ 0x06 ∷ 0x00 ∷ 0x00 ∷ 0xFA ∷ 0x00 ∷ []

abbrev slow : Rates
slow = record { down = Some 64000; up = None }

computed : rates_by (vendor_of bytes) ≡ slow
unfolding vendor_of be rate_of item_of items_from group_in step_at walk_from
computed = refl

module _ (g : Settings) (p : List ℕ) (clock : ℕ) (t b : List ℕ) (m n k : ℕ) (skew : ℤ) (a : Attribute)
    (ack : handle_answer g t b p clock ≡ Ack m skew n) (code : code_of p ≡ 43)
    (first : first_of (kind_is 26) (attributes (area_of p)) ≡ Some a) (value : value_of (area_of p) a ≡ bytes) (l : k < slot_count t)
    (h : matches_in (area_of p) t k ≡ true) where
  named : rates_named (area_of p) ≡ slow
  unfolding rates_named
  named = ap (rates_at (area_of p)) first ∙ ap (λ (v : List ℕ). rates_by (vendor_of v)) value ∙ computed

  table : handle_table g t b p clock ≡ change_matching 43 (area_of p) t
  unfolding handle_table
  table = ap (table_as p t) ack ∙ ap (λ (c : ℕ). change_matching c (area_of p) t) code

  pub down_rate_lem : down_rate (slot k (handle_table g t b p clock)) ≡ 64000
  down_rate_lem = rw table (E.down_after (area_of p) t k l h 64000 (ap (λ (r : Rates). r.down) named) (omega arith))

  pub up_rate_lem : up_rate (slot k (handle_table g t b p clock)) ≡ up_rate (slot k t)
  up_rate_lem = rw table (E.up_same (area_of p) t k l h (ap (λ (r : Rates). r.up) named))
