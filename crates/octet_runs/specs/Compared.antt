-- How two texts are compared. Document 02, request 02: "Compare lengths, then last bytes first, inside the text comparison, and have it count byte
-- pairs compared: none for unequal lengths, else through the first unequal."
-- Assumes nothing.
use Rattle.std.specs.Prelude.{Bool, cond, ◌&&◌, List, [], ◌∷◌, reverse, ℕ, ◌+◌, eqb, length}
use Rattle.octet_numbers.specs.Runs.{equal_bytes}
use Rattle.octet_runs.specs.declared.Compared as D

-- the pairs compared in two runs from the front, through the first unequal one; all of them where none is
unfoldable pub pairs_from : List ℕ → List ℕ → ℕ
pairs_from [] ys = 0
pairs_from (x ∷ xs) [] = 0
pairs_from (x ∷ xs) (y ∷ ys) = cond (eqb x y) (1 + pairs_from xs ys) 1

-- the same length and, last byte first, the same bytes
unfoldable pub same_text : List ℕ → List ℕ → Bool
same_text a b = eqb (length a) (length b) && equal_bytes (reverse a) (reverse b)

-- the byte pairs compared, last byte first
unfoldable pub pairs_compared : List ℕ → List ℕ → ℕ
pairs_compared a b = cond (eqb (length a) (length b)) (pairs_from (reverse a) (reverse b)) 0

abbrev pub compared_of : List ℕ → List ℕ → D.Compared
compared_of a b = record { same = same_text a b; pairs = pairs_compared a b }
