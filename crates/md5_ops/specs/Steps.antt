-- The operations of MD5 in parts, as the code goes through them.
-- For inner contracts and proofs: the operations are in md5_ops/specs/Md5.antt.
-- Assumes nothing.
use Rattle.std.specs.Prelude.{◌≡◌, List, ℕ, zero, suc, ◌+◌, ◌*◌, ◌/◌, ◌%◌, ◌^◌, ◌<◌, get_or, set}
use Rattle.md5_ops.specs.declared.State.{State}
use Rattle.md5_ops.specs.Table.{sines, shifts}
use Rattle.md5_ops.specs.Md5.{mix, index_in, word_at, turn}

-- the rotation s is that of operation i, and a word can be turned by s
pub record Shift (i s : ℕ) : Type 0 where
  pub is : s ≡ get_or shifts (i / 16 * 4 + i % 4) 0
  pub above : 0 < s
  pub below : s < 32

-- the place of operation i among 64 numbers: its round, and in it the word of the block that it takes
unfoldable pub place : ℕ → ℕ
place i = i / 16 * 16 + index_in (i / 16) i

-- t has the constant of each operation at its place
pub record InPlace (t : List ℕ) : Type 0 where
  pub sine : (i : ℕ) → i < 64 → get_or t (place i) 0 ≡ get_or sines i 0

-- x has the words of the block m
pub record Words (m x : List ℕ) : Type 0 where
  pub word : (j : ℕ) → j < 16 → get_or x j 0 ≡ word_at m j

-- w has the sums of the words x with the numbers of t
pub record Sums (x t w : List ℕ) : Type 0 where
  pub sum : (p : ℕ) → p < 64 → get_or w p 0 ≡ (get_or x (p % 16) 0 + get_or t p 0) % 2 ^ 32

-- the sum of x and the number of t at place p is put there; a word's four
unfoldable pub put_at : List ℕ → List ℕ → ℕ → ℕ → List ℕ
put_at w t x p = set w p ((x + get_or t p 0) % 2 ^ 32)

unfoldable pub put_word : List ℕ → List ℕ → ℕ → ℕ → List ℕ
put_word w t x j = put_at (put_at (put_at (put_at w t x j) t x (j + 16)) t x (j + 32)) t x (j + 48)

-- operation i, on the sums w
unfoldable pub step_on : List ℕ → ℕ → State → State
step_on w i q = turn q (mix (i / 16) q.b q.c q.d) (get_or w (place i) 0) 0 (get_or shifts (i / 16 * 4 + i % 4) 0)

-- n operations on the sums w, from operation i on
unfoldable pub steps_from : List ℕ → ℕ → ℕ → State → State
steps_from w i zero q = q
steps_from w i (suc n) q = step_on w (i + n) (steps_from w i n q)
