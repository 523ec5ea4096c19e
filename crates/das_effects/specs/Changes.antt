-- What a request does to the sessions it names (document 01: "All matching sessions are changed", "A CoA writes only the fields that it names").
-- The request is told by its code and the area of its attributes.
-- Assumes nothing.
use Rattle.std.specs.Prelude.{cond, List, ℕ, ◌+◌, ◌-◌, eqb, Option, Some, None}
use Rattle.octet_numbers.specs.Numbers.{be}
use Rattle.octet_runs.specs.declared.span.Span.{Span}
use Rattle.attr_walk.specs.declared.Attribute.{Attribute}
use Rattle.attr_walk.specs.Attributes.{attributes, first_of, kind_is}
use Rattle.attr_vendor.specs.declared.Rates.{Rates}
use Rattle.attr_vendor.specs.declared.Vendor.{Vendor}
use Rattle.attr_vendor.specs.declared.Vendor.TheVariants.{Other, Faulty, Sets}
use Rattle.attr_vendor.specs.Vendor.{unset, vendor_in}
use Rattle.table_slots.specs.Slot.{slot_count}
use Rattle.table_change.specs.declared.Change.{Change}
use Rattle.table_change.specs.declared.Change.TheVariants.{End, Alter}
use Rattle.table_change.specs.declared.Alteration.{Alteration}
use Rattle.table_change.specs.Change.{change_where}
use Rattle.das_effects.specs.Matching.{matches_in}

-- the four bytes of a value as a number, and where a value lies; nothing where there is no such attribute
abbrev pub number_at : List ℕ → Option Attribute → Option ℕ
number_at area (Some a) = Some (be (a.at + 2) 4 area)
number_at area None = None

abbrev pub text_at : Option Attribute → Option Span
text_at (Some a) = Some (record { at = a.at + 2; size = a.size - 2 })
text_at None = None

-- the rates that a type 26 sets; one that is another vendor's or not well-formed sets none, and does not come here (401, 404)
abbrev pub rates_by : Vendor → Rates
rates_by Other = unset
rates_by (Faulty p) = unset
rates_by (Sets h) = h

abbrev pub rates_at : List ℕ → Option Attribute → Rates
rates_at area (Some a) = rates_by (vendor_in area a)
rates_at area None = unset

unfoldable pub rates_named : List ℕ → Rates
rates_named area = rates_at area (first_of (kind_is 26) (attributes area))

-- what a CoA names: Session-Timeout (27), Idle-Timeout (28), Filter-Id (11), and the two rates of Vendor-Specific (26)
unfoldable pub alteration_of : List ℕ → Alteration
alteration_of area =
    record {
      timeout = number_at area (first_of (kind_is 27) (attributes area));
      idle = number_at area (first_of (kind_is 28) (attributes area));
      filter = text_at (first_of (kind_is 11) (attributes area));
      down = (rates_named area).down;
      up = (rates_named area).up;
    }

-- a Disconnect (code 40) ends the sessions, a CoA alters them
unfoldable pub change_of : ℕ → List ℕ → Change
change_of code area = cond (eqb code 40) End (Alter (alteration_of area))

-- all matching sessions are changed
unfoldable pub change_matching : ℕ → List ℕ → List ℕ → List ℕ
change_matching code area t = change_where area (change_of code area) (matches_in area t) (slot_count t) t
