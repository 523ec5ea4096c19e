-- A block of the signed request as the code has it: put together from its parts, each laid after those before it, or taken from the packet,
-- whose bytes from 20 up to Length are the message's. Assumes nothing.
use mathlib.Core.Path.{◌≡◌, refl, sym, ap, ◌∙◌}
use mathlib.Core.List.{List, [], ◌∷◌, ◌++◌, append_assoc}
use Prim.Native.Nat.{ℕ, zero, suc, ◌+◌, ◌-◌, ◌*◌, ◌/◌, ◌%◌, ◌<◌, ◌≤◌}
use native.Mathlib.Numerals.{add-one}
use native.Mathlib.Omega.{arith}
use lib.ListN.{length, take, drop, replicate, length-append, length-take, length-drop, length-replicate}
use lib.Seq.{take_all, take-take, take-append-le, drop-append-le, drop-append-add, drop-drop}
use Rattle.octet_numbers.specs.Runs.{part}
use Rattle.octet_numbers.proofs.Part.{drop-take}
use Rattle.md5_ops.specs.declared.State.{State}
use Rattle.md5_ops.specs.Md5.{le_bytes, padding, pad, after, md5_block}
use Rattle.packet_auth.specs.Signing.{zeros, with_auth, signed}
use Rattle.packet_blocks.specs.Block.{block_count, request_block, hashed}
use Rattle.packet_blocks.specs.Window.{window}
use Rattle.packet_auth.proofs.Messages.{between, length-zeros, length-with_auth, length-signed}
use Rattle.packet_blocks.proofs.Stepwise.{length-request_block}
use Rattle.packet_blocks.proofs.Windows.{window-none, window_full}

-- a call of `lay` with the part v
abbrev Laid : ℕ → ℕ → List ℕ → List ℕ → List ℕ → Type 0
Laid s at v b b' = (m : List ℕ) → length m ≡ at → b ≡ window s m → b' ≡ window s (m ++ v)

-- the packet in three parts
pub packet_laid : (s n : ℕ) (p z b b₁ b₂ b₃ : List ℕ) → Laid s 0 (take 4 p) b b₁ → Laid s 4 z b₁ b₂ → Laid s 20 (between 20 n p) b₂ b₃
    → z ≡ replicate 16 0 → 20 ≤ n → n ≤ length p → b ≡ window s [] → b₃ ≡ window s (with_auth zeros p n)
unfolding with_auth zeros
packet_laid s n p z b b₁ b₂ b₃ first second third e low fits none =
    let l₁ : length (take 4 p) ≡ 4 = simp length-take (omega arith) in
    let l₂ : length (take 4 p ++ z) ≡ 20 = rw (length-append, e, l₁) in
    rw (drop-take 20 n p, ← e) (third (take 4 p ++ z) l₂ (second (take 4 p) l₁ (first [] refl none)))

take-replicate : (z n a : ℕ) → z ≤ n → take z (replicate n a) ≡ replicate z a
take-replicate zero n a h = refl
take-replicate (suc z) zero a h = absurd (omega arith)
take-replicate (suc z) (suc n) a h = ap (λ (l : List ℕ). a ∷ l) (take-replicate z n a (omega arith))

-- the first byte of the padding with zeros after it, e bytes in all
abbrev padded : ℕ → List ℕ
padded e = take {A = ℕ} e (0x80 ∷ replicate 63 0)

-- the padding in two parts: its first byte with zeros, and the count
pub padding_laid : (s t e : ℕ) (c b b₁ b₂ : List ℕ) → Laid s t (padded e) b b₁ → Laid s (t + e) c b₁ b₂ → c ≡ le_bytes 8 (t * 8)
    → e ≡ (119 - t % 64) % 64 + 1 → (m : List ℕ) → length m ≡ t → b ≡ window s m → b₂ ≡ window s (m ++ padding t)
padding_laid s t e c b b₁ b₂ first second ec ee m l held =
    let z : ℕ = (119 - t % 64) % 64 in
    let first_byte : padded e ≡ 0x80 ∷ replicate z 0 = rw (ee, add-one) (ap (λ (x : List ℕ). 0x80 ∷ x) (take-replicate z 63 0 (omega arith))) in
    let lm : length (m ++ padded e) ≡ t + e = rw (length-append, first_byte, l) (simp length-replicate (omega arith)) in
    second (m ++ padded e) lm (first m l held) ∙ ap (window s) (rw (first_byte, ec) (append_assoc m (0x80 ∷ replicate z 0) (le_bytes 8 (t * 8))))

-- the packet, the secret and the padding
module _ (s n k : ℕ) (p secret : List ℕ) (low : 20 ≤ n) (fits : n ≤ length p) where
  pub block_laid : (t : ℕ) (b b₁ b₂ b₃ : List ℕ) → (b ≡ window s [] → b₁ ≡ window s (with_auth zeros p n)) → Laid s n secret b₁ b₂
      → ((m : List ℕ) → length m ≡ t → b₂ ≡ window s m → b₃ ≡ window s (m ++ padding t)) → b ≡ replicate 64 0 → s ≡ 64 * k → t ≡ n + length secret
      → k < block_count (n + length secret) → b₃ ≡ request_block k p n secret
  unfolding signed request_block part
  block_laid t b b₁ b₂ b₃ first second third none es et h =
      let l₁ : length (with_auth zeros p n) ≡ n = length-with_auth zeros p n low fits length-zeros in
      let l₂ : length (with_auth zeros p n ++ secret) ≡ t = length-signed zeros p n low fits length-zeros secret ∙ sym et in
      let held : b₃ ≡ window s (with_auth zeros p n ++ secret ++ padding t) =
      third (with_auth zeros p n ++ secret) l₂ (second (with_auth zeros p n) l₁ (first (none ∙ window-none s))) in
      let is : b₃ ≡ window (64 * k) (pad (with_auth zeros p n ++ secret)) = held ∙ rw (es, l₂) in
      is ∙ window_full (64 * k) (pad (with_auth zeros p n ++ secret)) (length-request_block k p n secret low fits h)

-- a block that lies in the packet
module _ (k n : ℕ) (p secret : List ℕ) (later : 0 < k) (inside : k < n / 64) (fits : n ≤ length p) where
  in_packet : request_block k p n secret ≡ take 64 (drop (64 * k) p)
  unfolding request_block signed with_auth zeros
  in_packet =
      let rest = secret ++ padding (length (signed zeros p n secret)) in
      let body = drop 20 (take n p) in
      let head = take 4 p ++ zeros in
      let lh : length head ≡ 20 = rw length-append (simp length-take (omega arith)) in
      let lb : length body ≡ n - 20 = simp (length-drop, length-take) (omega arith) in
      let i : 64 * k ≡ length head + (64 * k - 20) = omega arith in
      let j : 20 + (64 * k - 20) ≡ 64 * k = omega arith in
      ap (λ (m : List ℕ). take 64 (drop (64 * k) m))
      (append_assoc (head ++ body) secret (padding (length (signed zeros p n secret))) ∙ append_assoc head body rest)
      ∙ ap (λ (e : ℕ). take 64 (drop e (head ++ (body ++ rest)))) i
      ∙ ap (take 64) (drop-append-add head (body ++ rest) (64 * k - 20) ∙ drop-append-le (64 * k - 20) body rest (omega arith))
      ∙ take-append-le 64 (drop (64 * k - 20) body) rest (rw (length-drop (64 * k - 20) body) (omega arith))
      ∙ ap (take 64) (drop-drop (64 * k - 20) 20 (take n p) ∙ ap (λ (e : ℕ). drop e (take n p)) j ∙ drop-take (64 * k) n p)
      ∙ take-take 64 (n - 64 * k) (drop (64 * k) p) (omega arith)

-- one block of 64 bytes
one_block : (q r : State) (b : List ℕ) → length b ≡ 64 → r ≡ after q (length b / 64) b → r ≡ md5_block q b
one_block q r b l e =
    let one : length b / 64 ≡ 1 = omega arith in
    e ∙ rw (one, take_all 64 b (omega arith))

pub hashed_there : (q r : State) (k n s : ℕ) (p secret : List ℕ)
    → r ≡ after q (length (take (s + 64 - s) (drop s p)) / 64) (take (s + 64 - s) (drop s p))
    → s ≡ 64 * k → 0 < k → k < n / 64 → n ≤ length p → r ≡ hashed q k p n secret
unfolding hashed
hashed_there q r k n s p secret e es h g f =
    let z : s + 64 - s ≡ 64 = omega arith in
    let l : length (take 64 (drop s p)) ≡ 64 = simp (length-take, length-drop) (omega arith) in
    one_block q r (take 64 (drop s p)) l (rw z at e) ∙ rw (in_packet k n p secret h g f, es)

pub hashed_built : (q r : State) (k n : ℕ) (p secret b : List ℕ) → b ≡ request_block k p n secret → r ≡ after q (length b / 64) b
    → 20 ≤ n → n ≤ length p → k < block_count (n + length secret) → r ≡ hashed q k p n secret
unfolding hashed
hashed_built q r k n p secret b eb e low fits h = one_block q r b (rw eb (length-request_block k p n secret low fits h)) e ∙ rw eb
