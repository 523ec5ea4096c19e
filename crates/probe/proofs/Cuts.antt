-- A message in three pieces: each call says what it holds of every message, and the three pieces are the message.
-- Assumes nothing.
use mathlib.Core.Path.{◌≡◌, refl, sym, ap, ◌∙◌}
use mathlib.Core.List.{List, [], ◌++◌, append_assoc}
use Prim.Native.Nat.{ℕ, ◌+◌, ◌-◌, ◌≤◌}
use native.Mathlib.Nat.{zero-add}
use native.Mathlib.Omega.{arith}
use lib.ListN.{length, take, drop, length-take, length-drop, take-append-drop}
use lib.Seq.{take_all, take-add, length-take-le}
use Rattle.md5_ops.specs.declared.State.{State}
use Rattle.md5_ops.specs.Md5.{initial, md5}
use Rattle.md5_digest.specs.Held.{Held}
use Rattle.md5_digest.proofs.Pieces.{held_as, held_none}
use Rattle.md5_hmac.specs.Hmac.{inner_pad, hmac}

-- the bytes of m from i to e
abbrev between : ℕ → ℕ → List ℕ → List ℕ
between i e m = take (e - i) (drop i m)

-- a call of `update` with the piece s
abbrev Updated : ℕ → List ℕ → State → List ℕ → State → List ℕ → Type 0
Updated n s q b r b' = (l : List ℕ) → Held n l q b → Held (n + length s) (l ++ s) r b'

three : (m : List ℕ) (a b : ℕ) → a ≤ b → b ≤ length m → (take a m ++ between a b m) ++ between b (length m) m ≡ m
three m a b h g =
    let e : a + (b - a) ≡ b = omega arith in
    let l : take (length m - b) (drop b m) ≡ drop b m = take_all (length m - b) (drop b m) (simp length-drop (omega arith)) in
    rw (← (take-add a (b - a) m), e, l) (take-append-drop b m)

module _ (m pre : List ℕ) (x n₁ n₂ a b : ℕ) (q₀ q₁ q₂ q₃ : State) (b₀ b₁ b₂ b₃ : List ℕ)
    (first : Updated x (take a m) q₀ b₀ q₁ b₁) (second : Updated n₁ (between a b m) q₁ b₁ q₂ b₂) (third : Updated n₂ (between b (length m) m) q₂ b₂ q₃ b₃)
    (e₁ : n₁ ≡ x + a) (e₂ : n₂ ≡ x + b) (h : a ≤ b) (g : b ≤ length m) where
  held_cut : Held x pre q₀ b₀ → Held (x + length m) (pre ++ m) q₃ b₃
  held_cut held =
      let l₁ : length (take a m) ≡ a = length-take-le a m (omega arith) in
      let l₂ : length (between a b m) ≡ b - a = simp (length-take, length-drop) (omega arith) in
      let l₃ : length (between b (length m) m) ≡ length m - b = simp (length-take, length-drop) (omega arith) in
      let h₁ = held_as (x + length (take a m)) n₁ (pre ++ take a m) (pre ++ take a m) q₁ b₁ (omega arith) refl (first pre held) in
      let h₂ = held_as (n₁ + length (between a b m)) n₂ ((pre ++ take a m) ++ between a b m) ((pre ++ take a m) ++ between a b m) q₂ b₂ (omega arith) refl (second (pre ++ take a m) h₁) in
      held_as _ (x + length m) _ (pre ++ m) q₃ b₃ (omega arith)
      (append_assoc (pre ++ take a m) (between a b m) (between b (length m) m)
      ∙ append_assoc pre (take a m) (between a b m ++ between b (length m) m)
      ∙ ap (λ (l : List ℕ). pre ++ l) (sym (append_assoc (take a m) (between a b m) (between b (length m) m)) ∙ three m a b h g))
      (third ((pre ++ take a m) ++ between a b m) h₂)

-- after nothing: MD5
pub md5_cut : (m : List ℕ) (a b : ℕ) (q₀ q₁ q₂ q₃ : State) (b₀ b₁ b₂ b₃ d : List ℕ) → q₀ ≡ initial
    → Updated 0 (take a m) q₀ b₀ q₁ b₁ → Updated a (between a b m) q₁ b₁ q₂ b₂ → Updated b (between b (length m) m) q₂ b₂ q₃ b₃
    → ((l : List ℕ) → Held (length m) l q₃ b₃ → d ≡ md5 l) → a ≤ b → b ≤ length m → d ≡ md5 m
md5_cut m a b q₀ q₁ q₂ q₃ b₀ b₁ b₂ b₃ d i first second third last h g =
    last m
    (held_as (0 + length m) (length m) m m q₃ b₃ (zero-add (length m)) refl
    (held_cut m [] 0 a b a b q₀ q₁ q₂ q₃ b₀ b₁ b₂ b₃ first second third (omega arith) (omega arith) h g (rw i (held_none b₀))))

-- after the key's block: HMAC
pub hmac_cut : (k m : List ℕ) (a b : ℕ) (q₀ q₁ q₂ q₃ : State) (b₀ b₁ b₂ b₃ d : List ℕ) → ((l : List ℕ) → Held 64 (inner_pad k) q₀ l)
    → Updated 64 (take a m) q₀ b₀ q₁ b₁ → Updated (64 + a) (between a b m) q₁ b₁ q₂ b₂ → Updated (64 + b) (between b (length m) m) q₂ b₂ q₃ b₃
    → ((l : List ℕ) → Held (64 + length m) (inner_pad k ++ l) q₃ b₃ → d ≡ hmac k l) → a ≤ b → b ≤ length m → d ≡ hmac k m
hmac_cut k m a b q₀ q₁ q₂ q₃ b₀ b₁ b₂ b₃ d i first second third last h g =
    last m (held_cut m (inner_pad k) 64 (64 + a) (64 + b) a b q₀ q₁ q₂ q₃ b₀ b₁ b₂ b₃ first second third refl refl h g (i b₀))
