-- What one attribute of a known class adds to the flags of a pass.
-- For inner contracts and proofs: what the flags stand for is said in attr_types/specs/Types.antt, the classes are in attr_types/specs/Classes.antt.
-- Assumes nothing.
use Rattle.std.specs.Prelude.{Bool, true, false, ◌||◌, ℕ}
use Rattle.attr_survey.specs.declared.Flags as D
use Rattle.attr_types.specs.Classes.{says, lacking, misfit_by}

-- the flags before the first attribute
abbrev pub no_flags : D.Flags
no_flags = record { tiled = true; unsupported = false; service = false; repeated = false; misfit = false; criterion = false; change = false }

-- after one more attribute: its class and length answer the rules, `again` says that its type was there before
abbrev pub joined_by : ℕ → ℕ → ℕ → Bool → D.Flags → D.Flags
joined_by code class size again f =
    record {
      tiled = f.tiled;
      unsupported = f.unsupported || lacking code class;
      service = f.service || says 128 class;
      repeated = f.repeated || again;
      misfit = f.misfit || misfit_by class size;
      criterion = f.criterion || says 16 class;
      change = f.change || says 32 class;
    }

-- where no attribute stands before the area's end: the attributes do not fill it
abbrev pub untiled : D.Flags → D.Flags
untiled f = record { tiled = false; unsupported = f.unsupported; service = f.service; repeated = f.repeated; misfit = f.misfit; criterion = f.criterion; change = f.change }
