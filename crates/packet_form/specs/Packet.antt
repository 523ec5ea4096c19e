-- The parts of a packet (document 01, "The packet").
-- Assumes nothing.
use Rattle.std.specs.Prelude.{List, ℕ, ◌-◌, get_or}
use Rattle.octet_numbers.specs.Numbers.{be}
use Rattle.octet_numbers.specs.Runs.{part}

abbrev pub code_of : List ℕ → ℕ
code_of p = get_or p 0 0

abbrev pub identifier_of : List ℕ → ℕ
identifier_of p = get_or p 1 0

abbrev pub length_of : List ℕ → ℕ
length_of p = be 2 2 p

abbrev pub auth_of : List ℕ → List ℕ
auth_of p = part 4 16 p

-- the attributes, up to Length
abbrev pub area_of : List ℕ → List ℕ
area_of p = part 20 (length_of p - 20) p
