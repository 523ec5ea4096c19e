-- What the loops over a block's words leave at the places that are done, and the test that each constant stands at its place.
-- Assumes nothing.
use mathlib.Core.Path.{◌≡◌, refl, ap, ◌∙◌}
use mathlib.Core.Logic.{◌≢◌}
use mathlib.Core.Bool.{Bool, true, ◌&&◌}
use mathlib.Core.List.{List, [], ◌∷◌}
use Prim.Native.Nat.{ℕ, zero, suc, ◌+◌, ◌%◌, ◌^◌, ◌<◌}
use native.Mathlib.Nat.{add-zero, zero-add}
use native.Mathlib.Omega.{arith}
use lib.Dec.{T, eqb, eqb→eq}
use lib.Ieee.Fits.{and_l, and_r}
use lib.ListN.{length, get_or, set, length-set}
use Rattle.md5_ops.specs.Table.{sines}
use Rattle.md5_ops.specs.Md5.{word_at}
use Rattle.md5_ops.specs.Steps.{InPlace, place, put_at, put_word}

-- what stands at p after a store at i, by what it is at i and elsewhere
at_set : (l : List ℕ) (i v p e : ℕ) → i < length l → (p ≡ i → v ≡ e) → (p ≢ i → get_or l p 0 ≡ e) → get_or (set l i v) p 0 ≡ e
at_set [] i v p e h s o = absurd (omega arith)
at_set (x ∷ l) zero v zero e h s o = s refl
at_set (x ∷ l) zero v (suc p) e h s o = o (λ q. omega arith)
at_set (x ∷ l) (suc i) v zero e h s o = o (λ q. omega arith)
at_set (x ∷ l) (suc i) v (suc p) e h s o = at_set l i v p e (omega arith) (λ q. s (ap suc q)) (λ n. o (λ q. n (omega arith)))

-- the first j words are read
pub record Read (m x : List ℕ) (j : ℕ) : Type 0 where
  pub long : length x ≡ 16
  pub word : (k : ℕ) → k < j → get_or x k 0 ≡ word_at m k

-- what is to stand at place p
abbrev sum_at : List ℕ → List ℕ → ℕ → ℕ
sum_at x t p = (get_or x (p % 16) 0 + get_or t p 0) % 2 ^ 32

-- the sums of the first j words are put
pub record Put (x t w : List ℕ) (j : ℕ) : Type 0 where
  pub sum : (p : ℕ) → p < 64 → p % 16 < j → get_or w p 0 ≡ sum_at x t p

-- one store more
length_put : (w t : List ℕ) (x p : ℕ) → length (put_at w t x p) ≡ length w
unfolding put_at
length_put w t x p = length-set w p ((x + get_or t p 0) % 2 ^ 32)

at_put : (x t w : List ℕ) (j i p : ℕ) → length w ≡ 64 → i < 64 → i % 16 ≡ j → (p ≢ i → get_or w p 0 ≡ sum_at x t p)
    → get_or (put_at w t (get_or x j 0) i) p 0 ≡ sum_at x t p
unfolding put_at
at_put x t w j i p l h e o = at_set w i ((get_or x j 0 + get_or t i 0) % 2 ^ 32) p (sum_at x t p) (omega arith) (λ q. rw (q, e)) o

-- the next word's four
pub length_word : (w t : List ℕ) (x j : ℕ) → length (put_word w t x j) ≡ length w
unfolding put_word
length_word w t x j = simp length_put

pub put_more : (x t w v : List ℕ) (j : ℕ) → Put x t w j → length w ≡ 64 → j < 16 → v ≡ put_word w t (get_or x j 0) j → Put x t v (j + 1)
unfolding put_word
put_more x t w v j r l h e =
    let w₁ = put_at w t (get_or x j 0) j in
    let w₂ = put_at w₁ t (get_or x j 0) (j + 16) in
    let w₃ = put_at w₂ t (get_or x j 0) (j + 32) in
    let l₁ : length w₁ ≡ 64 = length_put w t (get_or x j 0) j ∙ l in
    let l₂ : length w₂ ≡ 64 = length_put w₁ t (get_or x j 0) (j + 16) ∙ l₁ in
    let l₃ : length w₃ ≡ 64 = length_put w₂ t (get_or x j 0) (j + 32) ∙ l₂ in
    record {
      sum = λ p b d. rw e
          (at_put x t w₃ j (j + 48) p l₃ (omega arith) (omega arith)
          (λ n₃. at_put x t w₂ j (j + 32) p l₂ (omega arith) (omega arith)
          (λ n₂. at_put x t w₁ j (j + 16) p l₁ (omega arith) (omega arith)
          (λ n₁. at_put x t w j j p l (omega arith) (omega arith)
          (λ n₀. r.sum p b (omega arith))))));
    }

-- t has the entries of l, counted from i, at their places
abbrev pub agree : List ℕ → List ℕ → ℕ → Bool
agree t [] i = true
agree t (x ∷ l) i = eqb (get_or t (place i) 0) x && agree t l (suc i)

agrees : (t l : List ℕ) (i : ℕ) → T (agree t l i) → (k : ℕ) → k < length l → get_or t (place (i + k)) 0 ≡ get_or l k 0
agrees t [] i a k h = absurd (omega arith)
agrees t (x ∷ l) i a zero h = rw add-zero (eqb→eq (get_or t (place i) 0) x (and_l (eqb (get_or t (place i) 0) x) (agree t l (suc i)) a))
agrees t (x ∷ l) i a (suc k) h =
    let e : i + suc k ≡ suc i + k = omega arith in
    rw e (agrees t l (suc i) (and_r (eqb (get_or t (place i) 0) x) (agree t l (suc i)) a) k (omega arith))

pub in_place : (t : List ℕ) → T (agree t sines 0) → InPlace t
in_place t a = record { sine = λ i h. rw zero-add at (agrees t sines 0 a i h) }
