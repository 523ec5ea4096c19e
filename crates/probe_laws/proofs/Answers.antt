-- The two answers of a test export, from the tests that the code makes.
-- Assumes nothing.
use mathlib.Core.Path.{◌≡◌, refl, sym, ap, ◌∙◌}
use mathlib.Core.Bool.{Bool, true, false, cond, ◌&&◌, and-false}
use mathlib.Core.List.{List}
use Prim.Native.Nat.{ℕ, ◌+◌, ◌-◌, ◌^◌, ◌<◌, ◌≤◌}
use native.Mathlib.Omega.{arith}
use borrow.Author.Tests.{eq-eqb, ne_eqb, le-leb, lt-leb, lt-ltb, le-ltb, leb-true, leb-false}
use lib.Dec.{leb}
use lib.ListN.{length}
use Rattle.octet_numbers.specs.Numbers.{be, be_bytes}
use Rattle.octet_numbers.specs.Runs.{part, write, equal_bytes}
use Rattle.octet_numbers.proofs.Part.{part_whole}
use Rattle.octet_numbers.proofs.Write.{write_whole}
use Rattle.probe_laws.specs.Probe.{digest_room, cut_ok, inside, number_ok, put_ok}

-- b is the test of a call
module _ (b : Bool) where
  pub refused : b ≡ false → ◌≡◌ {A = ℕ} 1 (cond b 0 1)
  refused e = rw e

  pub done : b ≡ true → ◌≡◌ {A = ℕ} 0 (cond b 0 1)
  done e = rw e

  pub keeps : {A : Type 0} (x y : A) → b ≡ false → y ≡ cond b x y
  keeps x y e = rw e

  pub writes : {A : Type 0} (x y t : A) → b ≡ true → t ≡ x → t ≡ cond b x y
  writes x y t e g = rw e g

-- room for a digest
pub room_no : (out : List ℕ) → (length out ≡ 16 → ⊥) → digest_room out ≡ false
unfolding digest_room
room_no out n = ne_eqb _ _ n

pub room_yes : (out : List ℕ) → length out ≡ 16 → digest_room out ≡ true
unfolding digest_room
room_yes out e = eq-eqb _ _ e

-- the 16 bytes of a digest, copied
pub copied : (t out d v : List ℕ) → t ≡ write out 0 d → d ≡ v → length v ≡ 16 → length out ≡ 16 → t ≡ v
copied t out d v e g h l = e ∙ rw g (write_whole out v (h ∙ sym l))

module _ (a b : ℕ) (m out : List ℕ) where
  pub cut_room : (length out ≡ 16 → ⊥) → cut_ok a b m out ≡ false
  unfolding cut_ok
  cut_room n = rw (room_no out n)

  pub cut_order : length out ≡ 16 → b < a → cut_ok a b m out ≡ false
  unfolding cut_ok
  cut_order e h = rw (room_yes out e, lt-leb _ _ h)

  pub cut_long : length out ≡ 16 → a ≤ b → length m < b → cut_ok a b m out ≡ false
  unfolding cut_ok
  cut_long e h g = rw (room_yes out e, le-leb _ _ h, lt-leb _ _ g)

  pub cut_yes : length out ≡ 16 → a ≤ b → b ≤ length m → cut_ok a b m out ≡ true
  unfolding cut_ok
  cut_yes e h g = rw (room_yes out e, le-leb _ _ h, le-leb _ _ g)

-- the answer of `lies_in`, r
module _ (r : Bool) (at n : ℕ) (l : List ℕ) (is : r ≡ leb (at + n) (length l)) where
  pub lies_fits : r ≡ true → at + n ≤ length l
  lies_fits e = leb-true _ _ (sym is ∙ e)

  pub lies_room : (k : ℕ) → r ≡ true → n ≡ k → at + k ≤ length l
  lies_room k e w = rw (← w) (lies_fits e)

  pub lies : (b : Bool) → r ≡ b → inside at n l ≡ b
  unfolding inside
  lies b e = sym is ∙ e

  pub number_outside : r ≡ false → number_ok at n l ≡ false
  unfolding number_ok
  number_outside e = rw (lies false e, and-false)

  pub number_two : r ≡ true → n ≡ 2 → number_ok at n l ≡ true
  unfolding number_ok
  number_two e w = rw (eq-eqb _ _ w) (lies true e)

  pub number_four : r ≡ true → n ≡ 4 → number_ok at n l ≡ true
  unfolding number_ok
  number_four e w = rw (lies true e, w)

  module _ (v : ℕ) where
    pub put_outside : r ≡ false → put_ok at n v l ≡ false
    unfolding put_ok
    put_outside e = rw (number_outside e)

    pub put_two : r ≡ true → n ≡ 2 → v < 65536 → put_ok at n v l ≡ true
    unfolding put_ok
    put_two e w h = rw (number_two e w, w) (lt-ltb v 65536 h)

    pub put_large : r ≡ true → n ≡ 2 → 65536 ≤ v → put_ok at n v l ≡ false
    unfolding put_ok
    put_large e w h = rw (number_two e w, w) (le-ltb v 65536 h)

    pub put_four : r ≡ true → n ≡ 4 → v < 2 ^ 32 → put_ok at n v l ≡ true
    unfolding put_ok
    put_four e w h = rw (number_four e w, w) (lt-ltb v (2 ^ 32) h)

-- another width
pub number_other : (at n : ℕ) (l : List ℕ) → (n ≡ 2 → ⊥) → (n ≡ 4 → ⊥) → number_ok at n l ≡ false
unfolding number_ok
number_other at n l h g = rw (ne_eqb _ _ h, ne_eqb _ _ g)

pub put_other : (at n v : ℕ) (l : List ℕ) → (n ≡ 2 → ⊥) → (n ≡ 4 → ⊥) → put_ok at n v l ≡ false
unfolding put_ok
put_other at n v l h g = rw (number_other at n l h g)

-- a number read or written at the width asked for
pub read_as : (x at k n : ℕ) (l : List ℕ) → x ≡ be at k l → n ≡ k → x ≡ be at n l
read_as x at k n l e w = rw w e

pub put_as : (t l : List ℕ) (at k n v : ℕ) → t ≡ write l at (be_bytes k v) → n ≡ k → t ≡ write l at (be_bytes n v)
put_as t l at k n v e w = rw w e

-- a sum compared without being made
pub lies_past : (len at n : ℕ) → len < at → false ≡ leb (at + n) len
lies_past len at n h = sym (lt-leb (at + n) len (omega arith))

pub lies_rest : (len at n : ℕ) → at ≤ len → leb n (len - at) ≡ leb (at + n) len
lies_rest len at n h = go (leb n (len - at)) refl
  where
    go : (b : Bool) → leb n (len - at) ≡ b → b ≡ leb (at + n) len
    go true e = let l = leb-true n (len - at) e in sym (le-leb (at + n) len (omega arith))
    go false e = let l = leb-false n (len - at) e in sym (lt-leb (at + n) len (omega arith))

-- 16 bytes each, from their start on
pub whole_runs : (r : Bool) (a b : List ℕ) → r ≡ equal_bytes (part 0 16 a) (part 0 16 b) → length a ≡ 16 → length b ≡ 16 → r ≡ equal_bytes a b
whole_runs r a b e h g = e ∙ rw (← h) (ap (λ (t : List ℕ). equal_bytes t (part 0 (length a) b)) (part_whole a) ∙ ap (equal_bytes a) (rw (h, ← g) (part_whole b)))

-- 1 the same, 0 not, and 2 where one has not 16 bytes
module _ (r e : Bool) (is : r ≡ e) where
  pub says_same : r ≡ true → ◌≡◌ {A = ℕ} 1 (cond e 1 0)
  says_same h = rw (← is, h)

  pub says_other : r ≡ false → ◌≡◌ {A = ℕ} 0 (cond e 1 0)
  says_other h = rw (← is, h)

pub both_rooms : (a b : List ℕ) (x : ℕ) (v : ℕ) → length a ≡ 16 → length b ≡ 16 → x ≡ v → x ≡ cond (digest_room a && digest_room b) v 2
both_rooms a b x v h g e = rw (room_yes a h, room_yes b g) e

pub first_room : (a b : List ℕ) (v : ℕ) → (length a ≡ 16 → ⊥) → 2 ≡ cond (digest_room a && digest_room b) v 2
first_room a b v h = rw (room_no a h)

pub second_room : (a b : List ℕ) (v : ℕ) → (length b ≡ 16 → ⊥) → 2 ≡ cond (digest_room a && digest_room b) v 2
second_room a b v h = rw (room_no b h, and-false)
