-- Readers over an attribute area: one at the area's start, and one moved to another place.
-- For inner contracts and proofs: what an area holds is said in attr_walk/specs/Attributes.antt.
-- Assumes nothing.
use Rattle.std.specs.Prelude.{List, ℕ}
use Rattle.std.specs.Borrow.{Bor}
use Rattle.attr_reader.specs.declared.Reader.{Reader}

abbrev pub opened : Bor (List ℕ) → Reader
opened area = record { area = area; at = 0 }

abbrev pub moved_to : Reader → ℕ → Reader
moved_to r at = record { area = r.area; at = at }
