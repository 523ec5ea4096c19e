-- The Message-Authenticator as a run of calls: after the key's block come the front, the attributes up to the value, zeros, the attributes after it.
-- Each call says what it holds of every message, and these pieces are the definition's message. Assumes nothing.
use mathlib.Core.Path.{◌≡◌, refl}
use mathlib.Core.List.{List, ◌++◌, append_assoc}
use Prim.Native.Nat.{ℕ, ◌+◌, ◌≤◌}
use native.Mathlib.Omega.{arith}
use lib.ListN.{length, replicate}
use Rattle.octet_numbers.specs.Runs.{write}
use Rattle.md5_ops.specs.declared.State.{State}
use Rattle.md5_digest.specs.Held.{Held}
use Rattle.md5_digest.proofs.Pieces.{held_as}
use Rattle.md5_hmac.specs.Hmac.{inner_pad, hmac}
use Rattle.packet_auth.specs.Signing.{message_authenticator}
use Rattle.packet_auth.proofs.Messages.{between}
use Rattle.packet_auth.proofs.Blanked.{front, length-between, blanked_pieces}
use Rattle.packet_auth.proofs.Pieces.{Updated, then, held_front}

module _ (auth p : List ℕ) (n : ℕ) (low : 20 ≤ n) (fits : n ≤ length p) (long : length auth ≡ 16) (at : ℕ) (from : 20 ≤ at) (to : at + 16 ≤ n) where
  pub mac_run : (secret z : List ℕ) (q₀ q₁ q₂ q₃ : State) (b₀ b₁ b₂ b₃ b₄ d : List ℕ) → b₁ ≡ write b₀ 0 (front p auth) → length b₀ ≡ 64 → z ≡ replicate 16 0
      → ((l : List ℕ) → Held 64 (inner_pad secret) q₀ l) → Updated 84 (between 20 at p) q₀ b₁ q₁ b₂ → Updated (at + 64) z q₁ b₂ q₂ b₃
      → Updated (at + 80) (between (at + 16) n p) q₂ b₃ q₃ b₄ → ((l : List ℕ) → Held (n + 64) (inner_pad secret ++ l) q₃ b₄ → d ≡ hmac secret l)
      → d ≡ message_authenticator auth p n at secret
  unfolding message_authenticator
  mac_run secret z q₀ q₁ q₂ q₃ b₀ b₁ b₂ b₃ b₄ d e lb ez start first second third last =
      let k = inner_pad secret in
      let f = front p auth in
      let x = between 20 at p in
      let y = between (at + 16) n p in
      let lx = length-between 20 at p from (omega arith) in
      let ly = length-between (at + 16) n p to (omega arith) in
      let lz : length z ≡ 16 = rw ez in
      let h₀ = held_front auth p n low fits long 64 k q₀ b₀ b₁ refl e lb (start b₀) in
      let h₁ = then 84 (at + 64) (k ++ f) x q₀ q₁ b₁ b₂ first (omega arith) h₀ in
      let h₂ = then (at + 64) (at + 80) (k ++ f ++ x) z q₁ q₂ b₂ b₃ second (omega arith) h₁ in
      let h₃ = then (at + 80) (n + 64) (k ++ f ++ x ++ z) y q₂ q₃ b₃ b₄ third (omega arith) h₂ in
      rw (blanked_pieces auth p n at fits long from to, ← ez)
      (last (f ++ x ++ z ++ y) (held_as (n + 64) (n + 64) (k ++ f ++ x ++ z ++ y) (k ++ (f ++ x ++ z ++ y)) q₃ b₄ refl (simp append_assoc) h₃))
