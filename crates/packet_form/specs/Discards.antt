-- D1 to D3 of document 01's "Silent discards, first that applies".
-- Assumes nothing.
use Rattle.std.specs.Prelude.{Bool, cond, not, ◌||◌, List, ◌≡◌, ℕ, ◌≤◌, eqb, ltb, length, Option, Some, None}
use Rattle.refusals.specs.declared.Discard.{Discard}
use Rattle.refusals.specs.declared.Discard.TheVariants as D
use Rattle.attr_walk.specs.Attributes.{tiled}
use Rattle.packet_form.specs.Packet.{code_of, length_of, area_of}

-- D1: fewer than 20 bytes given; Length below 20, above 4,096 or above the bytes given
unfoldable pub bad_length : List ℕ → Bool
bad_length p = ltb (length p) 20 || (ltb (length_of p) 20 || (ltb 4096 (length_of p) || ltb (length p) (length_of p)))

-- D2: code not 40 or 43
unfoldable pub bad_code : List ℕ → Bool
bad_code p = not (eqb (code_of p) 40 || eqb (code_of p) 43)

-- D3: attributes do not fill Length exactly, or one has length 0 or 1
unfoldable pub bad_attributes : List ℕ → Bool
bad_attributes p = not (tiled (area_of p))

-- D1, D2, D3, the first that applies
unfoldable pub form_of : List ℕ → Option Discard
form_of p = cond (bad_length p) (Some D.Length) (cond (bad_code p) (Some D.Code) (cond (bad_attributes p) (Some D.Attributes) None))

-- n is the Length of a packet that does not meet D1
pub record Sized (p : List ℕ) (n : ℕ) : Type 0 where
  pub is : n ≡ length_of p
  pub low : 20 ≤ n
  pub high : n ≤ 4096
  pub given : n ≤ length p
