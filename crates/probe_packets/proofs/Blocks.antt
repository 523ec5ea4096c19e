-- The authenticator block by block: the words after one block more, and after all of them.
-- Assumes nothing.
use mathlib.Core.Path.{◌≡◌, ap, ◌∙◌}
use mathlib.Core.List.{List}
use Prim.Native.Nat.{ℕ, ◌+◌, ◌≤◌}
use native.Mathlib.Numerals.{add-one}
use native.Mathlib.Omega.{arith}
use lib.ListN.{length}
use Rattle.md5_ops.specs.declared.State.{State}
use Rattle.md5_ops.specs.Md5.{output}
use Rattle.packet_auth.specs.Signing.{zeros, authenticator}
use Rattle.packet_blocks.specs.Block.{block_count, hashed, hashed_to}
use Rattle.packet_blocks.proofs.Stepwise.{blocks_more, blocks_all}

module _ (p : List ℕ) (n : ℕ) (secret : List ℕ) where
  pub words_more : (q r : State) (k : ℕ) → q ≡ hashed_to k p n secret → r ≡ hashed q k p n secret → r ≡ hashed_to (k + 1) p n secret
  words_more q r k e g = rw (add-one, blocks_more k p n secret, ← e) g

  pub words_all : (q : State) (k e : ℕ) (d : List ℕ) → q ≡ hashed_to k p n secret → e ≡ block_count (n + length secret) → k ≤ e → e ≤ k
      → d ≡ output q
      → 20 ≤ n → n ≤ length p → d ≡ authenticator zeros p n secret
  words_all q k e d i g h l j low fits =
      let s : k ≡ block_count (n + length secret) = omega arith in
      j ∙ ap output (i ∙ ap (λ (x : ℕ). hashed_to x p n secret) s) ∙ blocks_all p n secret low fits
