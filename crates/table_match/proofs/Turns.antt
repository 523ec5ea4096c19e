-- A turn of the walk over the slots has five ways out: the record's mark lacks, the sieve holds the slot back, a criterion fails, the slot is not
-- live, all is met. Each gives the marks after one slot more.
-- Assumes nothing.
use mathlib.Core.Path.{◌≡◌, refl, sym, ◌∙◌}
use mathlib.Core.Bool.{Bool, true, false, ◌&&◌, and-false, and-true}
use mathlib.Core.List.{List}
use Prim.Native.Nat.{ℕ, ◌+◌, ◌≤◌, ◌<◌}
use lib.Dec.{eqb}
use lib.ListN.{length, get_or, set, drop, drop_of_length-le}
use Rattle.std.proofs.lemmas.List.{drop_more}
use Rattle.std.specs.Prelude.{Option, None, Some}
use Rattle.table_slots.specs.Slot.{live, slot}
use Rattle.table_slots.specs.Marks.{marks_after}
use Rattle.table_slots.proofs.Live.{unmarked}
use Rattle.table_slots.proofs.Marked.{marks_skip, marks_more}
use Rattle.table_criteria.specs.declared.Criterion.{Criterion}
use Rattle.table_criteria.specs.declared.sieve.Sieve.{Sieve}
use Rattle.table_criteria.specs.Meets.{all, listed, meets, matches, matches_at}
use Rattle.table_criteria.specs.Passes.{passes}

-- what only those with p have is not there where p fails
lacks : (b p : Bool) → (b ≡ true → p ≡ true) → p ≡ false → b ≡ false
lacks true p f e = let z : p ≡ true = f refl in cc
lacks false p f e = refl

-- m is the marks before the turn, m' after it; s is slot k, and r the answer of the call that decides
module _
    (m m' area t s : List ℕ) (c : List (Option Criterion)) (k : ℕ) (r : Bool)
    (e : m ≡ marks_after (matches_at area (listed c) t) k) (here : s ≡ slot k t) where
  pub turn_free : m' ≡ m → r ≡ eqb (get_or s 0 0) 0x5A && eqb (get_or s 1 0) 0x4C → r ≡ false
      → m' ≡ marks_after (matches_at area (listed c) t) (k + 1)
  unfolding matches
  turn_free w is g = w ∙ marks_skip (matches_at area (listed c) t) m k e (sym (rw (← here, unmarked s (sym is ∙ g)) refl))

  pub turn_sieved : (sieve : Option Sieve) → m' ≡ m → r ≡ passes sieve s
      → ((u : List ℕ) → length u ≡ 192 → matches area (listed c) u ≡ true → passes sieve u ≡ true)
      → length s ≡ 192 → r ≡ false
      → m' ≡ marks_after (matches_at area (listed c) t) (k + 1)
  turn_sieved sieve w is f l g =
      w ∙ marks_skip (matches_at area (listed c) t) m k e (sym (rw (← here) (lacks _ (passes sieve s) (f s l) (sym is ∙ g))))

  -- the criteria from i on are left
  module _ (i : ℕ) (left : all (meets area s) (listed c) ≡ all (meets area s) (listed (drop i c))) where
    pub turn_fails : (d : Criterion) → m' ≡ m → i < length c → get_or c i None ≡ Some d → r ≡ meets area s d → r ≡ false
        → m' ≡ marks_after (matches_at area (listed c) t) (k + 1)
    unfolding matches
    turn_fails d w h o is g =
        w ∙ marks_skip (matches_at area (listed c) t) m k e (sym (rw (← here, left, drop_more c i None h, o, ← is, g) (and-false (live s))))

    met : length c ≤ i → matches_at area (listed c) t k ≡ live s
    unfolding matches
    met h = rw (← here, left, drop_of_length-le c {i = i} h) (and-true (live s))

    pub turn_dead : m' ≡ m → length c ≤ i → r ≡ live s → r ≡ false → m' ≡ marks_after (matches_at area (listed c) t) (k + 1)
    turn_dead w h is g = w ∙ marks_skip (matches_at area (listed c) t) m k e (sym (met h ∙ sym is ∙ g))

    pub turn_meets : m' ≡ set m k 1 → length c ≤ i → r ≡ live s → r ≡ true → m' ≡ marks_after (matches_at area (listed c) t) (k + 1)
    turn_meets w h is g = w ∙ marks_more (matches_at area (listed c) t) m k e (sym (met h ∙ sym is ∙ g))
