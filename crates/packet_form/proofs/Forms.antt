-- D1 to D3 from the tests that the code makes, in their order.
-- Assumes nothing.
use mathlib.Core.Path.{◌≡◌, refl, sym, ◌∙◌}
use mathlib.Core.Bool.{Bool, true, false, ◌||◌, false≢true}
use mathlib.Core.List.{List}
use Prim.Native.Nat.{ℕ, ◌<◌, ◌≤◌}
use native.Mathlib.Omega.{arith}
use borrow.Author.Tests.{lt-ltb, le-ltb, ltb-false}
use lib.Dec.{eqb, ltb}
use lib.ListN.{length}
use Rattle.std.specs.Prelude.{Some, None}
use Rattle.refusals.specs.declared.Discard.TheVariants as D
use Rattle.octet_numbers.specs.Numbers.{be}
use Rattle.attr_walk.specs.Attributes.{tiled}
use Rattle.packet_form.specs.Packet.{code_of, length_of, area_of}
use Rattle.packet_form.specs.Discards.{bad_length, bad_code, bad_attributes, form_of, Sized}

-- D1 by each of its four parts
pub length_short : (p : List ℕ) → length p < 20 → true ≡ bad_length p
unfolding bad_length
length_short p h = rw (lt-ltb _ _ h)

module _ (p : List ℕ) (n : ℕ) (is : n ≡ be 2 2 p) (long : 20 ≤ length p) where
  pub length_low : n < 20 → true ≡ bad_length p
  unfolding bad_length
  length_low h = rw (le-ltb _ _ long, ← is, lt-ltb _ _ h)

  pub length_high : 20 ≤ n → 4096 < n → true ≡ bad_length p
  unfolding bad_length
  length_high low h = rw (le-ltb _ _ long, ← is, le-ltb _ _ low, lt-ltb _ _ h)

  pub length_cut : 20 ≤ n → n ≤ 4096 → ltb (length p) n ≡ bad_length p
  unfolding bad_length
  length_cut low high = rw (le-ltb _ _ long, ← is, le-ltb _ _ low, le-ltb _ _ high)

-- D1, D2, D3 in their order: b, r and t are the answers of the three tests
module _ (p : List ℕ) (b : Bool) (d1 : b ≡ bad_length p) where
  pub form_length : b ≡ true → form_of p ≡ Some D.Length
  unfolding form_of
  form_length h = rw (← d1, h)

  module _ (r : Bool) (good : b ≡ false) (d2 : r ≡ (eqb (code_of p) 40 || eqb (code_of p) 43)) where
    pub form_code : r ≡ false → form_of p ≡ Some D.Code
    unfolding form_of bad_code
    form_code h = rw (← d1, good, ← d2, h)

    module _ (t : Bool) (s : List ℕ) (right : r ≡ true) (area : s ≡ area_of p) (d3 : t ≡ tiled s) where
      pub form_tiled : t ≡ true → form_of p ≡ None
      unfolding form_of bad_code bad_attributes
      form_tiled h = rw (← d1, good, ← d2, right, ← area, ← d3, h)

      pub form_untiled : t ≡ false → form_of p ≡ Some D.Attributes
      unfolding form_of bad_code bad_attributes
      form_untiled h = rw (← d1, good, ← d2, right, ← area, ← d3, h)

-- D1 does not apply: Length is from 20 to 4,096, and so many bytes are given
sized_of : (p : List ℕ) (n : ℕ) (a b c d : Bool) → n ≡ length_of p → ltb (length p) 20 ≡ a → ltb (length_of p) 20 ≡ b → ltb 4096 (length_of p) ≡ c → ltb (length p) (length_of p) ≡ d
    → (a || (b || (c || d))) ≡ false → Sized p n
sized_of p n false false false false i ea eb ec ed h =
    rw i record { is = refl; low = ltb-false _ _ eb; high = ltb-false _ _ ec; given = ltb-false _ _ ed }
sized_of p n true b c d i ea eb ec ed h = absurd (false≢true (sym h))
sized_of p n false true c d i ea eb ec ed h = absurd (false≢true (sym h))
sized_of p n false false true d i ea eb ec ed h = absurd (false≢true (sym h))
sized_of p n false false false true i ea eb ec ed h = absurd (false≢true (sym h))

pub good_sized : (p : List ℕ) (n : ℕ) → bad_length p ≡ false → n ≡ be 2 2 p → Sized p n
unfolding bad_length
good_sized p n e i = sized_of p n _ _ _ _ i refl refl refl refl e

pub sized_good : (p : List ℕ) (n : ℕ) → Sized p n → bad_length p ≡ false
sized_good p n z = sym (length_cut p n z.is (omega (arith, z.low, z.given)) z.low z.high) ∙ le-ltb (length p) n z.given

pub good_head : (p : List ℕ) (k : ℕ) → bad_length p ≡ false → k ≤ 20 → k ≤ length p
good_head p k e h = let z = good_sized p (be 2 2 p) e refl in omega arith

pub form_good : (p : List ℕ) → form_of p ≡ None → bad_length p ≡ false
unfolding form_of
form_good p e = go (bad_length p) refl
  where
    go : (b : Bool) → bad_length p ≡ b → b ≡ false
    go true h = let none : Some D.Length ≡ None = rw h at e in grind arith
    go false h = refl

pub form_sized : (p : List ℕ) → form_of p ≡ None → Sized p (length_of p)
form_sized p e = good_sized p (length_of p) (form_good p e) refl
