-- The last one or two blocks. The buffer is the message's rest with its padding: one block where the count still fits after it, else two.
-- Assumes nothing.
use mathlib.Core.Path.{◌≡◌, refl, sym, ap, ◌∙◌}
use mathlib.Core.List.{List, [], ◌∷◌, ◌++◌, append_assoc}
use Prim.Native.Nat.{ℕ, ◌+◌, ◌-◌, ◌*◌, ◌/◌, ◌%◌, ◌<◌, ◌≤◌}
use native.Mathlib.Omega.{arith}
use lib.ListN.{length, take, replicate, length-replicate, replicate-append-replicate}
use lib.Seq.{drop_at}
use Rattle.octet_numbers.specs.Runs.{write}
use Rattle.octet_numbers.proofs.Write.{length-write, write_then, write_end, write_whole}
use Rattle.md5_ops.specs.declared.State.{State}
use Rattle.md5_ops.specs.Md5.{after, le_bytes, padding, output, md5}
use Rattle.md5_ops.proofs.After.{after-add, after-append, block_count_lem, length-padding}
use Rattle.md5_digest.specs.Held.{Held}
use Rattle.md5_digest.proofs.Pieces.{more_words}

module _ (n : ℕ) (m : List ℕ) (q : State) (buf : List ℕ) (held : Held n m q buf) (long : length buf ≡ 64) where
  -- the digest, from the words held and the rest
  from_held : (k : ℕ) → (n + 8) / 64 + 1 ≡ n / 64 + k → md5 m ≡ output (after q k (take (n % 64) buf ++ padding n))
  unfolding md5
  from_held k e =
      let c : n ≡ length m = held.count in
      rw (block_count_lem m, ← c, e) (ap output (more_words n m q buf held k (padding n)))

  -- the count fits after the rest
  pub one_block : (b b' : List ℕ) (r : State) (d : List ℕ) → b ≡ write buf (n % 64) (0x80 ∷ [])
      → b' ≡ write b (n % 64 + 1) (replicate (56 - (n % 64 + 1)) 0 ++ le_bytes 8 (n * 8)) → n % 64 < 56 → r ≡ after q (length b' / 64) b' → d ≡ output r → d ≡ md5 m
  one_block b b' r d e e' h g o =
      let z : (119 - n % 64) % 64 ≡ 56 - (n % 64 + 1) = omega arith in
      let w : b' ≡ write buf (n % 64) (padding n) = rw z (write_then b b' buf (n % 64) (n % 64 + 1) (0x80 ∷ []) _ e e' refl) in
      let size : n % 64 + length (padding n) ≡ 64 = rw length-padding (omega arith) in
      let is : b' ≡ take (n % 64) buf ++ padding n = write_end b' buf (n % 64) (padding n) w (size ∙ sym long) in
      let lb : length b' ≡ 64 = ap length w ∙ length-write buf (n % 64) (padding n) ∙ long in
      let one : length b' / 64 ≡ 1 = omega arith in
      o ∙ ap output (g ∙ rw (one, is)) ∙ sym (from_held 1 (omega arith))

  -- it does not: a block with the rest and zeros, and one with zeros and the count
  pub two_blocks : (b b₁ b₂ : List ℕ) (r r' : State) (d : List ℕ) → b ≡ write buf (n % 64) (0x80 ∷ []) → b₁ ≡ write b (n % 64 + 1) (replicate (63 - n % 64) 0)
      → r ≡ after q (length b₁ / 64) b₁ → b₂ ≡ write b₁ 0 (replicate 56 0 ++ le_bytes 8 (n * 8)) → 56 ≤ n % 64
      → r' ≡ after r (length b₂ / 64) b₂ → d ≡ output r' → d ≡ md5 m
  two_blocks b b₁ b₂ r r' d e e₁ g e₂ h g' o =
      let z : (119 - n % 64) % 64 ≡ (63 - n % 64) + 56 = omega arith in
      let f = n % 64 in
      let head : List ℕ = 0x80 ∷ replicate (63 - n % 64) 0 in
      let last : List ℕ = replicate 56 0 ++ le_bytes 8 (n * 8) in
      let w₁ : b₁ ≡ write buf f head = write_then b b₁ buf f (f + 1) (0x80 ∷ []) (replicate (63 - n % 64) 0) e e₁ refl in
      let size : f + length head ≡ 64 = rw length-replicate (omega arith) in
      let i₁ : b₁ ≡ take f buf ++ head = write_end b₁ buf f head w₁ (size ∙ sym long) in
      let l₁ : length b₁ ≡ 64 = ap length w₁ ∙ length-write buf f head ∙ long in
      let i₂ : b₂ ≡ last = e₂ ∙ write_whole b₁ last (sym l₁) in
      let l₂ : length b₂ ≡ 64 = ap length e₂ ∙ length-write b₁ 0 last ∙ l₁ in
      let k₁ : length b₁ / 64 ≡ 1 = omega arith in
      let k₂ : length b₂ / 64 ≡ 1 = omega arith in
      let all : b₁ ++ b₂ ≡ take f buf ++ padding n =
      rw (i₁, i₂, z, ← (replicate-append-replicate {A = ℕ} (63 - n % 64) 56 0))
      (append_assoc (take f buf) head last ∙ ap (λ (l : List ℕ). take f buf ++ 0x80 ∷ l) (sym (append_assoc (replicate (63 - n % 64) 0) (replicate 56 0) (le_bytes 8 (n * 8))))) in
      let both : after q 2 (b₁ ++ b₂) ≡ r' =
      after-add q 1 1 (b₁ ++ b₂) ∙ rw (after-append q 1 b₁ b₂ (omega arith), drop_at b₁ b₂ 64 l₁) (sym (g' ∙ rw (k₂, g, k₁))) in
      o ∙ ap output (sym both ∙ ap (after q 2) all) ∙ sym (from_held 2 (omega arith))
