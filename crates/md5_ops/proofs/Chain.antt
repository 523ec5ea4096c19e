-- Operations one after the other: by fours, by rounds and all 64. Each chain of results is the recursion of `steps_from`, taken in parts;
-- on the sums of a block's words with the constants it is the definition's.
-- Assumes nothing.
use mathlib.Core.Path.{◌≡◌, refl, ◌∙◌}
use mathlib.Core.List.{List}
use Prim.Native.Nat.{ℕ, zero, suc, ◌+◌, ◌*◌, ◌/◌, ◌%◌, ◌^◌, ◌<◌, ◌≤◌}
use native.Mathlib.Nat.{add-zero, zero-add, add-suc, add_assoc}
use native.Mathlib.Omega.{arith}
use lib.ListN.{get_or}
use Rattle.md5_ops.specs.declared.State.{State}
use Rattle.md5_ops.specs.Table.{sines}
use Rattle.md5_ops.specs.Md5.{mix, index_in, word_at, turn, step, steps, add_state, md5_block}
use Rattle.md5_ops.specs.Steps.{Shift, InPlace, Words, Sums, place, step_on, steps_from}

-- an operation, from the results of its parts
pub stepped : (w : List ℕ) (i s f j : ℕ) (q r : State) → r ≡ turn q f (get_or w j 0) 0 s → f ≡ mix (i / 16) q.b q.c q.d
    → j ≡ place i → Shift i s → r ≡ step_on w i q
unfolding step_on
stepped w i s f j q r er ef ej e = rw (er, ef, ej, e.is)

-- j operations from i on, and then k more
from_add : (w : List ℕ) (i j k : ℕ) (q : State) → steps_from w i (j + k) q ≡ steps_from w (i + j) k (steps_from w i j q)
unfolding steps_from
from_add w i j zero q = rw add-zero
from_add w i j (suc k) q = rw (add-suc, from_add w i j k q, add_assoc)

module _ (w : List ℕ) (q r₁ r₂ r₃ r₄ : State) where
  pub in_four : (i : ℕ) → r₁ ≡ step_on w i q → r₂ ≡ step_on w (i + 1) r₁ → r₃ ≡ step_on w (i + 2) r₂ → r₄ ≡ step_on w (i + 3) r₃
      → r₄ ≡ steps_from w i 4 q
  unfolding steps_from
  in_four i e₁ e₂ e₃ e₄ = rw (e₄, e₃, e₂, e₁, add-zero)

  pub in_round : (i : ℕ) → r₁ ≡ steps_from w i 4 q → r₂ ≡ steps_from w (i + 4) 4 r₁ → r₃ ≡ steps_from w (i + 8) 4 r₂
      → r₄ ≡ steps_from w (i + 12) 4 r₃ → r₄ ≡ steps_from w i 16 q
  in_round i e₁ e₂ e₃ e₄ = rw (e₄, e₃, e₂, e₁, from_add w i 12 4 q, from_add w i 8 4 q, from_add w i 4 4 q)

  pub in_all : r₁ ≡ steps_from w 0 16 q → r₂ ≡ steps_from w 16 16 r₁ → r₃ ≡ steps_from w 32 16 r₂ → r₄ ≡ steps_from w 48 16 r₃
      → r₄ ≡ steps_from w 0 64 q
  in_all e₁ e₂ e₃ e₄ = rw (e₄, e₃, e₂, e₁, from_add w 0 48 16 q, from_add w 0 32 16 q, from_add w 0 16 16 q)

index_below : (k i : ℕ) → index_in k i < 16
index_below zero i = omega arith
index_below (suc zero) i = omega arith
index_below (suc (suc zero)) i = omega arith
index_below (suc (suc (suc k))) i = omega arith

-- a constant that is added to the word before
early : (q : State) (f x t s : ℕ) → turn q f ((x + t) % 2 ^ 32) 0 s ≡ turn q f x t s
unfolding turn
early q f x t s =
    let e : (q.a + f + (x + t) % 2 ^ 32 + 0) % 2 ^ 32 ≡ (q.a + f + x + t) % 2 ^ 32 = omega arith in
    rw e

-- the sums of a block's words with the constants
module _ (m x t w : List ℕ) (hx : Words m x) (ht : InPlace t) (hw : Sums x t w) where
  sum_at_lem : (i : ℕ) → i < 64 → get_or w (place i) 0 ≡ (word_at m (index_in (i / 16) i) + get_or sines i 0) % 2 ^ 32
  unfolding place
  sum_at_lem i h =
      let b = index_below (i / 16) i in
      let e : (i / 16 * 16 + index_in (i / 16) i) % 16 ≡ index_in (i / 16) i = omega arith in
      hw.sum (place i) (omega arith) ∙ rw (e, hx.word (index_in (i / 16) i) b, ht.sine i h)

  step_on_lem : (i : ℕ) (q : State) → i < 64 → step_on w i q ≡ step m i q
  unfolding step_on step
  step_on_lem i q h = rw (sum_at_lem i h, early)

  all_on : (n : ℕ) (q : State) → n ≤ 64 → steps_from w 0 n q ≡ steps m n q
  unfolding steps_from
  all_on zero q h = refl
  all_on (suc n) q h = rw (zero-add, all_on n q (omega arith), step_on_lem n (steps m n q) (omega arith))

  -- all operations, and the sum
  pub in_block : (q p r : State) → p ≡ steps_from w 0 64 q → r ≡ add_state q p → r ≡ md5_block q m
  unfolding md5_block
  in_block q p r e₁ e₂ = rw (e₂, e₁, all_on 64 q (omega arith))
