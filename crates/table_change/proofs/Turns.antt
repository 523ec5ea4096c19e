-- A turn of the walk over the marked slots: the slot at hand is as it was at the start, so its test is the definition's.
-- Assumes nothing.
use mathlib.Core.Path.{◌≡◌, refl, ap, ◌∙◌}
use mathlib.Core.Bool.{Bool, true, false, ◌&&◌}
use mathlib.Core.List.{List}
use Prim.Native.Nat.{ℕ, ◌+◌, ◌*◌, ◌≤◌, ◌<◌}
use native.Mathlib.Numerals.{add-one}
use native.Mathlib.Omega.{arith}
use lib.Dec.{eqb}
use lib.ListN.{length, get_or}
use Rattle.table_slots.specs.Slot.{slot, live}
use Rattle.table_slots.proofs.Count.{Counted}
use Rattle.table_slots.specs.Marks.{count_to}
use Rattle.table_change.specs.declared.Change.{Change}
use Rattle.table_change.specs.Change.{change_at, change_where, marked, change_marked, count_marked}
use Rattle.table_change.proofs.Slots.{length-change_where, slot-later}

pub none-changed : (area : List ℕ) (c : Change) (marks t : List ℕ) → t ≡ change_marked area c marks 0 t
unfolding change_marked change_where
none-changed area c marks t = refl

pub none_counted : (marks t : List ℕ) → 0 ≡ count_marked marks 0 t
unfolding count_marked count_to
none_counted marks t = refl

-- t₀ is the table at the start, t after the first k slots
module _ (area : List ℕ) (c : Change) (marks t t₀ : List ℕ) (k : ℕ) (e : t ≡ change_marked area c marks k t₀) where
  pub walk_long : length t ≡ length t₀
  unfolding change_marked
  walk_long = ap length e ∙ length-change_where area c (marked marks t₀) k t₀

  pub walk_fits : (n : ℕ) → Counted n (length t₀) → k < n → (k + 1) * 192 ≤ length t
  walk_fits n w h = rw walk_long (omega arith)

  same_test : marked marks t k ≡ marked marks t₀ k
  unfolding change_marked
  same_test = ap (λ (s : List ℕ). eqb (get_or marks k 0) 1 && live s) (ap (slot k) e ∙ slot-later area c (marked marks t₀) k k t₀ (omega arith))

  -- the slot at hand is marked and live, or not: t' is the table after it, n the count before it
  module _ (r : Bool) (is : r ≡ marked marks t k) where
    pub turn-changed : (t' u : List ℕ) → t' ≡ u → u ≡ change_at area c k t → r ≡ true → t' ≡ change_marked area c marks (k + 1) t₀
    unfolding change_marked change_where
    turn-changed t' u d g h = rw (add-one, ← same_test, ← is, h) (d ∙ g ∙ ap (change_at area c k) e)

    pub turn_kept : (t' : List ℕ) → t' ≡ t → r ≡ false → t' ≡ change_marked area c marks (k + 1) t₀
    unfolding change_marked change_where
    turn_kept t' d h = rw (add-one, ← same_test, ← is, h) (d ∙ e)

    pub turn_counted : (n n' : ℕ) → n ≡ count_marked marks k t₀ → n' ≡ n + 1 → r ≡ true → n' ≡ count_marked marks (k + 1) t₀
    unfolding count_marked count_to
    turn_counted n n' g d h = rw (add-one, ← same_test, ← is, h, ← g) d

    pub turn_passed : (n n' : ℕ) → n ≡ count_marked marks k t₀ → n' ≡ n → r ≡ false → n' ≡ count_marked marks (k + 1) t₀
    unfolding count_marked count_to
    turn_passed n n' g d h = rw (add-one, ← same_test, ← is, h) (d ∙ g)

-- a test tells as much where another is joined to it
pub both_first : (a b : Bool) → (a && b) ≡ true → a ≡ true
both_first true b h = refl
both_first false b h = h

pub ruleset turn-taken = (turn-changed, turn_counted, both_first)
