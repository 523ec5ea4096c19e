-- A job read from its numbers: each return of `block_in` and `stage_in` is one arm of its definition, chosen by the same test; a length is clamped.
-- Assumes nothing.
use mathlib.Core.Bool.{Bool, true, false}
use mathlib.Core.Path.{◌≡◌, ◌∙◌, sym}
use Prim.Native.Nat.{ℕ, ◌+◌, ◌≤◌, ◌<◌}
use lib.Dec.{ltb}
use Rattle.std.specs.Prelude.{max, min}
use native.Mathlib.Omega.{arith}
use Rattle.std.proofs.lemmas.Bool.Decides.{nat_tests}
use borrow.Author.Tests.{le-ltb, le-leb, lt-leb, eq-eqb, ne_eqb}
use Rattle.packet_blocks.specs.Block.{block_count}
use Rattle.sched_job.specs.declared.Stage.TheVariants.{Free, Hash, Check, Match}
use Rattle.sched_rows.specs.Layout.{between, block_in, stage_in}

module _ (low high n : ℕ) where
  pub inside : low ≤ n → n ≤ high → n ≡ between low high n
  unfolding between
  inside l h = rw (le-ltb n low l, le-ltb high n h)

  -- a length as the library clamps it
  pub clamped : (r : ℕ) → r ≡ max low (min n high) → low ≤ high → r ≡ between low high n
  unfolding between
  clamped r e fit = grind (arith, nat_tests)

module _ (size n place : ℕ) where
  pub short_none : n < 20 → false ≡ block_in size n place
  unfolding block_in
  short_none h = rw (lt-leb 20 n h)

  pub long_none : 20 ≤ n → 4096 < n → false ≡ block_in size n place
  unfolding block_in
  long_none l h = rw (le-leb 20 n l, lt-leb n 4096 h)

  pub counted : 20 ≤ n → n ≤ 4096 → (m : ℕ) → m ≡ block_count (n + size) → ltb place m ≡ block_in size n place
  unfolding block_in
  counted l h m e = rw (le-leb 20 n l, le-leb n 4096 h, e)

module _ (size kind place n : ℕ) where
  module _ (one : kind ≡ 1) (b : Bool) (is : b ≡ block_in size n place) where
    pub hash_in : b ≡ true → Hash place ≡ stage_in size kind place n
    unfolding stage_in
    hash_in t = rw (eq-eqb kind 1 one, sym is ∙ t)

    pub hash_out : b ≡ false → Free ≡ stage_in size kind place n
    unfolding stage_in
    hash_out t = rw (eq-eqb kind 1 one, sym is ∙ t)

  module _ (not-one : kind ≡ 1 → ⊥) where
    pub check_in : kind ≡ 2 → Check ≡ stage_in size kind place n
    unfolding stage_in
    check_in two = rw (ne_eqb kind 1 not-one, eq-eqb kind 2 two)

    module _ (not-two : kind ≡ 2 → ⊥) where
      pub match_in : kind ≡ 3 → Match place ≡ stage_in size kind place n
      unfolding stage_in
      match_in three = rw (ne_eqb kind 1 not-one, ne_eqb kind 2 not-two, eq-eqb kind 3 three)

      pub free_in : (kind ≡ 3 → ⊥) → Free ≡ stage_in size kind place n
      unfolding stage_in
      free_in not_three = rw (ne_eqb kind 1 not-one, ne_eqb kind 2 not-two, ne_eqb kind 3 not_three)
