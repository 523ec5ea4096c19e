-- A slot that passes a sieve has its byte and both its runs of four bytes; all pass where there is no sieve.
-- Assumes nothing.
use Rattle.std.specs.Prelude.{Bool, true, ◌&&◌, List, ℕ, eqb, get_or, Option, None, Some}
use Rattle.octet_numbers.specs.Numbers.{be}
use Rattle.table_criteria.specs.declared.sieve.Sieve.{Sieve}

abbrev pub passes : Option Sieve → List ℕ → Bool
passes None s = true
passes (Some d) s = eqb (get_or s d.place 0) d.byte && (eqb (be d.back 4 s) d.last && eqb (be d.front 4 s) d.first)
