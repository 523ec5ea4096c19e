-- The table of support classes: one entry for each type number from 0 to 255, eight answers in a byte.
-- Assumes nothing.
use Rattle.std.specs.Prelude.{Bool, cond, not, ◌&&◌, ◌||◌, List, [], ◌∷◌, ℕ, zero, suc, ◌+◌, ◌*◌, ◌/◌, ◌%◌, eqb}
use Rattle.octet_numbers.specs.Runs.{member}
use Rattle.attr_types.specs.Types.{supported, six_types, filled_types, naming_types, changing_types}

abbrev pub bit : Bool → ℕ
bit b = cond b 1 0

-- the answers for a type: supported in a CoA-Request, in a Disconnect-Request, of length 6, not of length 2, names a session, changes one, may repeat (33), is Service-Type (6)
unfoldable pub class_of : ℕ → ℕ
class_of k =
    bit (supported 43 k)
    + 2 * bit (supported 40 k)
    + 4 * bit (member k six_types)
    + 8 * bit (member k filled_types)
    + 16 * bit (member k naming_types)
    + 32 * bit (member k changing_types)
    + 64 * bit (eqb k 33)
    + 128 * bit (eqb k 6)

-- answer of weight w (1, 2, 4, .. 128)
unfoldable pub says : ℕ → ℕ → Bool
says w class = eqb (class / w % 2) 1

-- f i, f (i + 1), .., n of them
abbrev pub tabulate : (ℕ → ℕ) → ℕ → ℕ → List ℕ
tabulate f i zero = []
tabulate f i (suc n) = f i ∷ tabulate f (suc i) n

unfoldable pub classes : List ℕ
classes = tabulate class_of 0 256

-- 401 by the class
unfoldable pub lacking : ℕ → ℕ → Bool
lacking code class = not (cond (eqb code 43) (says 1 class) (says 2 class))

-- 404's lengths by the class
unfoldable pub misfit_by : ℕ → ℕ → Bool
misfit_by class size = (says 4 class && not (eqb size 6)) || (says 8 class && eqb size 2)
