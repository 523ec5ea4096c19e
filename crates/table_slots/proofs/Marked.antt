-- Marks and counts: a mark is 1 exactly at the slots below k that f names, a count goes by f below k alone, and one slot more adds at most its own.
-- Assumes nothing.
use mathlib.Core.Path.{◌≡◌, refl, ap, ◌∙◌}
use mathlib.Core.Bool.{Bool, true, false, cond}
use mathlib.Core.List.{List}
use mathlib.Core.Logic.{⊎_elim}
use Prim.Native.Nat.{ℕ, zero, suc, ◌+◌, ◌≤◌, ◌<◌}
use native.Mathlib.Nat.{eq-or-lt_of_le, le_of_suc-le-suc, le_antisymm}
use native.Mathlib.Numerals.{add-one}
use native.Mathlib.Omega.{arith}
use lib.ListN.{length, get_or, set, replicate, length-set}
use lib.Seq.{get_or-set_same, get_or-set_other}
use Rattle.table_slots.specs.Marks.{no_marks, marks_after, count_to}

module _ (f : ℕ → Bool) where
  long_by : (b : Bool) (m : List ℕ) (k : ℕ) → length (cond b (set m k 1) m) ≡ length m
  long_by true m k = length-set m k 1
  long_by false m k = refl

  pub length_marks : (k : ℕ) → length (marks_after f k) ≡ 64
  unfolding marks_after no_marks
  length_marks zero = refl
  length_marks (suc k) = long_by (f k) (marks_after f k) k ∙ length_marks k

  other_by : (b : Bool) (m : List ℕ) (k i : ℕ) → (i ≡ k → ⊥) → get_or (cond b (set m k 1) m) i 0 ≡ get_or m i 0
  other_by true m k i n = get_or-set_other m k i 1 0 n
  other_by false m k i n = refl

  none-at : (n i : ℕ) → ◌≡◌ {A = ℕ} (get_or (replicate n 0) i 0) 0
  none-at zero i = refl
  none-at (suc n) zero = refl
  none-at (suc n) (suc i) = none-at n i

  -- slots from k on have no mark yet
  pub mark_later : (k i : ℕ) → k ≤ i → get_or (marks_after f k) i 0 ≡ 0
  unfolding marks_after no_marks
  mark_later zero i h = none-at 64 i
  mark_later (suc k) i h = other_by (f k) (marks_after f k) k i (λ e. omega arith) ∙ mark_later k i (omega arith)

  same_by : (b : Bool) (m : List ℕ) (k : ℕ) → k < length m → get_or m k 0 ≡ 0 → get_or (cond b (set m k 1) m) k 0 ≡ cond b 1 0
  same_by true m k h e = get_or-set_same m k 1 0 h
  same_by false m k h e = e

  pub mark_at : (k i : ℕ) → i < k → i < 64 → get_or (marks_after f k) i 0 ≡ cond (f i) 1 0
  unfolding marks_after
  mark_at zero i h g = absurd (omega arith)
  mark_at (suc k) i h g =
      ⊎_elim
      (λ (e : i ≡ k). rw e (same_by (f k) (marks_after f k) k (rw (length_marks k, ← e) g) (mark_later k k (omega arith))))
      (λ (l : i < k). other_by (f k) (marks_after f k) k i (λ e. omega arith) ∙ mark_at k i l g)
      (eq-or-lt_of_le (le_of_suc-le-suc h))

  -- ---- counts

  most_by : (b : Bool) (n k : ℕ) → n ≤ k → cond b (n + 1) n ≤ suc k
  most_by true n k h = omega arith
  most_by false n k h = omega arith

  pub count_most : (k : ℕ) → count_to f k ≤ k
  unfolding count_to
  count_most zero = omega arith
  count_most (suc k) = most_by (f k) (count_to f k) k (count_most k)

  pub count_none : (k : ℕ) → ((i : ℕ) → i < k → f i ≡ false) → count_to f k ≡ 0
  unfolding count_to
  count_none zero h = refl
  count_none (suc k) h = rw (h k (omega arith)) (count_none k (λ i l. h i (omega arith)))

-- what f and g name below k is the same
pub count_same : (f g : ℕ → Bool) (k : ℕ) → ((i : ℕ) → i < k → f i ≡ g i) → count_to f k ≡ count_to g k
unfolding count_to
count_same f g zero h = refl
count_same f g (suc k) h = rw (h k (omega arith), count_same f g k (λ i l. h i (omega arith)))

pub marks_same : (f g : ℕ → Bool) (k : ℕ) → ((i : ℕ) → i < k → f i ≡ g i) → marks_after f k ≡ marks_after g k
unfolding marks_after
marks_same f g zero h = refl
marks_same f g (suc k) h = rw (h k (omega arith), marks_same f g k (λ i l. h i (omega arith)))

-- ---- the walk: m is the marks after the first k slots

pub marks_start : (f : ℕ → Bool) → replicate 64 0 ≡ marks_after f 0
unfolding no_marks marks_after
marks_start f = refl

module _ (f : ℕ → Bool) (m : List ℕ) (k : ℕ) (e : m ≡ marks_after f k) where
  pub marks_skip : false ≡ f k → m ≡ marks_after f (k + 1)
  unfolding marks_after
  marks_skip h = rw (add-one, ← h) e

  pub marks_more : true ≡ f k → set m k 1 ≡ marks_after f (k + 1)
  unfolding marks_after
  marks_more h = rw (add-one, ← h, e)

  pub marks_all : (n : ℕ) → k ≤ n → n ≤ k → m ≡ marks_after f n
  marks_all n h g = e ∙ ap (marks_after f) (le_antisymm h g)
