-- What a pass holds between two attributes: w are all attributes, l those that are left. The answers on w are what is held, completed by the answers on l.
-- Before the first attribute nothing is held; after the last what is held is the answer.
-- Assumes nothing.
use mathlib.Core.Path.{◌≡◌, refl, sym, ap}
use mathlib.Core.Bool.{Bool, true, ◌||◌}
use mathlib.Core.List.{List, []}
use Prim.Native.Nat.{ℕ}
use lib.ListN.{length, length-replicate}
use Rattle.attr_walk.specs.declared.Attribute.{Attribute}
use Rattle.attr_walk.specs.Attributes.{any, found, kind_is}
use Rattle.attr_survey.specs.declared.Flags.{Flags}
use Rattle.attr_types.specs.Types.{unsupported_type, misfitting, among, naming_types, changing_types, first_repeated, none}
use Rattle.attr_survey.specs.declared.counts.Noted.{Noted}
use Rattle.attr_survey.specs.Noted.{none_noted, blank, noted_at, seen_at}
use Rattle.attr_survey.specs.Survey.{Counted}
use Rattle.attr_survey.specs.Turns.{no_flags}
use Rattle.attr_types.proofs.Repeats.{same_seen}
use Rattle.attr_survey.proofs.Types.{Noting, blank_at, noted_start, noted_end}

-- one flag: x so far
abbrev pub Flag : (Attribute → Bool) → List Attribute → List Attribute → Bool → Type 0
Flag p w l x = any p w ≡ (x || any p l)

pub record Held (code : ℕ) (w l : List Attribute) (noted : List Noted) (f : Flags) : Type 0 where
  pub entries : length noted ≡ 256
  pub tiled : f.tiled ≡ true
  pub unsupported : Flag (unsupported_type code) w l f.unsupported
  pub service : Flag (kind_is 6) w l f.service
  pub repeated : found (first_repeated none w) ≡ (f.repeated || found (first_repeated (seen_at noted) l))
  pub misfit : Flag misfitting w l f.misfit
  pub criterion : Flag (among naming_types) w l f.criterion
  pub change : Flag (among changing_types) w l f.change
  pub types : (k : ℕ) → (k ≡ 33 → ⊥) → Noting w l k (noted_at noted k)

-- ---- before the first attribute, and after the last

length-blank : length blank ≡ 256
unfolding blank
length-blank = length-replicate 256 none_noted

pub starts : (code : ℕ) (w : List Attribute) (noted : List Noted) (f : Flags) → noted ≡ blank → f ≡ no_flags → Held code w w noted f
starts code w noted f p t =
    rw (p, t)
    record {
      entries = length-blank;
      tiled = refl;
      unsupported = refl;
      service = refl;
      repeated = ap found (same_seen _ _ w (λ k e. sym (rw (blank_at k))));
      misfit = refl;
      criterion = refl;
      change = refl;
      types = λ k e. rw (blank_at k) (noted_start w k);
    }

pub ends_types : (code : ℕ) (w : List Attribute) (noted : List Noted) (f : Flags) → Held code w [] noted f → (k : ℕ) → (k ≡ 33 → ⊥) → Counted w k (noted_at noted k)
ends_types code w noted f i k p = noted_end w k (noted_at noted k) (i.types k p)
