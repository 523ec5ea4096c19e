-- What the Vendor-Specific attributes of an area s add to the flags of a pass.
-- For inner contracts and proofs: what they say is in attr_vendor/specs/Vendor.antt, what the flags stand for in attr_types/specs/Types.antt.
-- Assumes nothing.
use Rattle.std.specs.Prelude.{◌||◌, List, ℕ}
use Rattle.attr_walk.specs.declared.Attribute.{Attribute}
use Rattle.attr_walk.specs.Attributes.{any}
use Rattle.attr_vendor.specs.declared.Vendor.{Vendor}
use Rattle.attr_vendor.specs.Vendor.{is_other, is_faulty, sets_rate, other_vendor, faulty_vendor, sets_rate_in}
use Rattle.attr_survey.specs.declared.Flags as D

-- one that says x
abbrev pub vendor_joined : Vendor → D.Flags → D.Flags
vendor_joined x f =
    record {
      tiled = f.tiled;
      unsupported = f.unsupported || is_other x;
      service = f.service;
      repeated = f.repeated;
      misfit = f.misfit || is_faulty x;
      criterion = f.criterion;
      change = f.change || sets_rate x;
    }

-- the attribute a, which says nothing where it is of another type
abbrev pub vendor_turned : List ℕ → Attribute → D.Flags → D.Flags
vendor_turned s a f =
    record {
      tiled = f.tiled;
      unsupported = f.unsupported || other_vendor s a;
      service = f.service;
      repeated = f.repeated;
      misfit = f.misfit || faulty_vendor s a;
      criterion = f.criterion;
      change = f.change || sets_rate_in s a;
    }

-- those of a list
abbrev pub vendors_joined : List ℕ → List Attribute → D.Flags → D.Flags
vendors_joined s l f =
    record {
      tiled = f.tiled;
      unsupported = f.unsupported || any (other_vendor s) l;
      service = f.service;
      repeated = f.repeated;
      misfit = f.misfit || any (faulty_vendor s) l;
      criterion = f.criterion;
      change = f.change || any (sets_rate_in s) l;
    }
