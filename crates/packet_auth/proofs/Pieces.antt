-- The authenticator as a run of calls: each call says what it holds of every message, and the pieces handed over are the definition's message.
-- Assumes nothing.
use mathlib.Core.Path.{◌≡◌, refl, sym, ◌∙◌}
use mathlib.Core.List.{List, [], ◌++◌}
use Prim.Native.Nat.{ℕ, ◌+◌, ◌%◌, ◌≤◌}
use native.Mathlib.Omega.{arith}
use lib.ListN.{length, take, length-take}
use Rattle.octet_numbers.specs.Runs.{part, write, equal_bytes}
use Rattle.octet_numbers.proofs.Part.{part_whole, drop-take}
use Rattle.octet_numbers.proofs.Write.{write_then}
use Rattle.md5_ops.specs.declared.State.{State}
use Rattle.md5_ops.specs.Md5.{initial, md5}
use Rattle.md5_digest.specs.Held.{Held}
use Rattle.md5_digest.proofs.Pieces.{held_as, held_none, held_short}
use Rattle.packet_auth.specs.Signing.{with_auth, signed, authenticator}
use Rattle.packet_auth.proofs.Messages.{between}
use Rattle.packet_auth.proofs.Blanked.{front, length_front, length-between}

-- a call of `update` with the piece s
abbrev pub Updated : ℕ → List ℕ → State → List ℕ → State → List ℕ → Type 0
Updated n s q b r b' = (l : List ℕ) → Held n l q b → Held (n + length s) (l ++ s) r b'

-- what is held after it, and the count in other words
pub then : (n e : ℕ) (m s : List ℕ) (q r : State) (b b' : List ℕ) → Updated n s q b r b' → n + length s ≡ e → Held n m q b → Held e (m ++ s) r b'
then n e m s q r b b' update count held = held_as (n + length s) e (m ++ s) (m ++ s) r b' count refl (update m held)

-- the front of a packet, by two copies
pub fronted : (b b₁ b₂ p auth : List ℕ) → b₁ ≡ write b 0 (take 4 p) → b₂ ≡ write b₁ 4 auth → 20 ≤ length p → b₂ ≡ write b 0 (take 4 p ++ auth)
fronted b b₁ b₂ p auth e g h = write_then b₁ b₂ b 0 4 (take 4 p) auth e g (sym (simp length-take (omega arith)))

module _ (auth p : List ℕ) (n : ℕ) (low : 20 ≤ n) (fits : n ≤ length p) (long : length auth ≡ 16) where
  -- the front in a buffer where no block is begun
  pub held_front : (x : ℕ) (m : List ℕ) (q : State) (b b' : List ℕ) → x % 64 ≡ 0 → b' ≡ write b 0 (front p auth) → length b ≡ 64
      → Held x m q b → Held (x + 20) (m ++ front p auth) q b'
  held_front x m q b b' z e lb held =
      let l : length (front p auth) ≡ 20 = length_front auth p (omega arith) long in
      held_as (x + length (front p auth)) (x + 20) (m ++ front p auth) (m ++ front p auth) q b' (omega arith) refl
      (held_short x m q b held (front p auth) b' (rw z e) (omega arith) lb)

  -- the front, the attributes, the secret
  pub signed-run : (secret : List ℕ) (q₀ q₁ q₂ : State) (b₀ b₁ b₂ b₃ d : List ℕ) → b₁ ≡ write b₀ 0 (front p auth) → length b₀ ≡ 64 → q₀ ≡ initial
      → Updated 20 (between 20 n p) q₀ b₁ q₁ b₂ → Updated n secret q₁ b₂ q₂ b₃ → ((l : List ℕ) → Held (n + length secret) l q₂ b₃ → d ≡ md5 l)
      → d ≡ authenticator auth p n secret
  unfolding authenticator signed with_auth
  signed-run secret q₀ q₁ q₂ b₀ b₁ b₂ b₃ d e lb i first second last =
      let l = length-between 20 n p low (omega arith) in
      let h₀ : Held 20 (front p auth) q₀ b₁ = held_front 0 [] q₀ b₀ b₁ refl e lb (rw i (held_none b₀)) in
      let h₁ = then 20 n (front p auth) (between 20 n p) q₀ q₁ b₁ b₂ first (omega arith) h₀ in
      rw (drop-take 20 n p) (last (front p auth ++ between 20 n p ++ secret) (second (front p auth ++ between 20 n p) h₁))

-- sixteen bytes are compared with all of a digest
pub compared : (a d s : List ℕ) (r : _) → r ≡ equal_bytes a (part 0 16 d) → d ≡ s → length s ≡ 16 → r ≡ equal_bytes a s
compared a d s r e g l = e ∙ rw (g, ← l, part_whole s)
