-- The front of a packet is four bytes and an authenticator: two stores and two writes, one after the other.
-- Assumes nothing.
use mathlib.Core.Path.{◌≡◌}
use mathlib.Core.List.{List, ◌∷◌, ◌++◌}
use Prim.Native.Nat.{ℕ, ◌+◌}
use native.Mathlib.Omega.{arith}
use lib.ListN.{length, set}
use Rattle.octet_numbers.specs.Numbers.{be_bytes}
use Rattle.octet_numbers.specs.Runs.{write}
use Rattle.octet_numbers.proofs.Numbers.{length-be_bytes}
use Rattle.octet_numbers.proofs.Write.{write_then}
use Rattle.packet_write.proofs.Writes.{write_two}

pub front_written : (auth l t₁ t₂ : List ℕ) (code identifier n : ℕ) → t₁ ≡ write (set (set l 0 code) 1 identifier) 2 (be_bytes 2 n) → t₂ ≡ write t₁ 4 auth
    → t₂ ≡ write l 0 ((code ∷ identifier ∷ be_bytes 2 n) ++ auth)
front_written auth l t₁ t₂ code identifier n e₁ e₂ =
    let four : 4 ≡ 0 + length (code ∷ identifier ∷ be_bytes 2 n) = omega (arith, length-be_bytes 2 n) in
    write_then t₁ t₂ l 0 4 (code ∷ identifier ∷ be_bytes 2 n) auth (write_two l t₁ 0 code identifier (be_bytes 2 n) e₁) e₂ four
