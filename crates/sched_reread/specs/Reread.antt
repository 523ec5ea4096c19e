-- Reading the part of the store again (document 01, "The desk": "Check, Match and Commit first read its part of the store again").
-- n is the kept Length, q the job's part of the store.
-- Assumes nothing.
use Rattle.std.specs.Prelude.{Bool, not, ◌&&◌, List, ℕ, eqb, is_some, is_none}
use Rattle.attr_walk.specs.declared.Attribute.{Attribute}
use Rattle.attr_walk.specs.Attributes.{attributes, any, kind_is}
use Rattle.rule_stamp.specs.Stamp.{stamp_of}
use Rattle.rule_causes.specs.Causes.{cause_of}
use Rattle.packet_form.specs.Packet.{code_of, length_of, area_of}
use Rattle.nas_settings.specs.Settings.{Settings}
use Rattle.packet_form.specs.Discards.{form_of}

-- none of D1 to D3 applies, and Length is the kept one
unfoldable pub holds : ℕ → List ℕ → Bool
holds n q = is_none (form_of q) && eqb (length_of q) n

-- a type 80 that is not of length 18
abbrev pub odd_mac : Attribute → Bool
odd_mac a = kind_is 80 a && not (eqb a.size 18)

-- in Match and Commit also: type 55 is there once with length 6, no type 80 is of another length than 18, and none of causes 1 to 6 applies
unfoldable pub holds_passed : Settings → ℕ → List ℕ → Bool
holds_passed g n q =
    holds n q
    && (is_some (stamp_of (area_of q))
    && (not (any odd_mac (attributes (area_of q)))
    && is_none (cause_of (code_of q) g.nas_ip g.nas_id (area_of q))))
