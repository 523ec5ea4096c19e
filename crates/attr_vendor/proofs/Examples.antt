-- Some values of a type 26, and what they say: computed from the definition.
-- Assumes nothing.
use mathlib.Core.Path.{◌≡◌, refl}
use mathlib.Core.List.{List, [], ◌∷◌, ◌++◌}
use Prim.Native.Nat.{ℕ, ◌+◌}
use lib.ListN.{length}
use Rattle.octet_numbers.specs.Numbers.{be}
use Rattle.attr_walk.specs.Attributes.{step_at, walk_from}
use Rattle.std.specs.Prelude.{Some, None}
use Rattle.attr_vendor.specs.declared.Vendor.TheVariants.{Other, Faulty, Sets}
use Rattle.attr_vendor.specs.Vendor.{rate_of, item_of, items_from, group_in, vendor_of, unset}

-- the number 32473
abbrev pub vendor : List ℕ
vendor = 0 ∷ 0 ∷ 0x7E ∷ 0xD9 ∷ []

abbrev pub down : List ℕ
down = 1 ∷ 6 ∷ 0 ∷ 0 ∷ 0xFA ∷ 0 ∷ []

abbrev pub up : List ℕ
up = 2 ∷ 6 ∷ 0 ∷ 1 ∷ 0 ∷ 0xD4 ∷ []

abbrev pub group : List ℕ → List ℕ
group l = 3 ∷ (length l + 2) ∷ l

-- no item
pub none : vendor_of vendor ≡ Sets unset
unfolding vendor_of be rate_of item_of items_from group_in step_at walk_from
none = refl

-- a rate beside a group with the other, all 32 bits of it
pub both : vendor_of (vendor ++ down ++ group up) ≡ Sets (record { down = Some 64000; up = Some 65748 })
unfolding vendor_of be rate_of item_of items_from group_in step_at walk_from
both = refl

-- the same rate in two groups: the second is at fault, at its own place
pub twice : vendor_of (vendor ++ group down ++ group down) ≡ Faulty 14
unfolding vendor_of be rate_of item_of items_from group_in step_at walk_from
twice = refl

-- four groups deep, and five
pub four : vendor_of (vendor ++ group (group (group (group down)))) ≡ Sets (record { down = Some 64000; up = None })
unfolding vendor_of be rate_of item_of items_from group_in step_at walk_from
four = refl

pub five : vendor_of (vendor ++ group (group (group (group (group []))))) ≡ Faulty 12
unfolding vendor_of be rate_of item_of items_from group_in step_at walk_from
five = refl

-- another item; an item that ends past its group, inside the attribute; another vendor, whose items are not read
pub other : vendor_of (vendor ++ down ++ (4 ∷ 2 ∷ [])) ≡ Faulty 10
unfolding vendor_of be rate_of item_of items_from group_in step_at walk_from
other = refl

pub past : vendor_of (vendor ++ (3 ∷ 4 ∷ 1 ∷ 6 ∷ 0 ∷ 0 ∷ 0 ∷ 0 ∷ [])) ≡ Faulty 6
unfolding vendor_of be rate_of item_of items_from group_in step_at walk_from
past = refl

pub stranger : vendor_of (0 ∷ 0 ∷ 0x7E ∷ 0xDA ∷ 9 ∷ []) ≡ Other
unfolding vendor_of be
stranger = refl
