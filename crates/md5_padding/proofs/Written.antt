-- What the writes of the end leave: a write after a write is one write, so the count is its two words and the digest its four.
-- Assumes nothing.
use mathlib.Core.Path.{◌≡◌, refl, sym, ap, ◌∙◌}
use mathlib.Core.List.{List, ◌∷◌, ◌++◌}
use Prim.Native.Nat.{ℕ, zero, suc, ◌+◌, ◌-◌, ◌*◌, ◌/◌, ◌%◌, ◌^◌, ◌≤◌}
use native.Mathlib.Nat.{pow-suc, one-le-pow}
use native.Mathlib.Omega.{arith}
use lib.Arith.{mod-mul}
use lib.ListN.{length, replicate, length-replicate}
use Rattle.std.specs.Int.{byte_at, bytes_low_first}
use Rattle.std.proofs.Math.Nat.{div-div-eq-div-mul}
use Rattle.octet_numbers.specs.Runs.{write}
use Rattle.octet_numbers.proofs.Write.{write_then, write_whole}
use Rattle.md5_ops.specs.declared.State.{State}
use Rattle.md5_ops.specs.Md5.{le_bytes, output}

-- k bytes hold a number modulo 256 ^ k
low_bytes : (k v : ℕ) → le_bytes k (v % 256 ^ k) ≡ le_bytes k v
low_bytes zero v = refl
low_bytes (suc k) v =
    let e : v % 256 ^ suc k ≡ v / 256 % 256 ^ k * 256 + v % 256 = rw pow-suc (mod-mul v {m = 256 ^ k} {c = 256} (one-le-pow k 256 (omega arith)) (omega arith)) in
    let low : v % 256 ^ suc k % 256 ≡ v % 256 = omega arith in
    let high : v % 256 ^ suc k / 256 ≡ v / 256 % 256 ^ k = omega arith in
    rw (low, high) (ap (λ (l : List ℕ). v % 256 ∷ l) (low_bytes k (v / 256)))

-- the library's bytes of a number from byte i on, the low one first, are those of i divisions by 256
byte_is : (i v : ℕ) → byte_at i v ≡ v / 256 ^ i % 256
byte_is zero v = omega arith
byte_is (suc i) v = refl

from_byte : (k i v : ℕ) → bytes_low_first i k v ≡ le_bytes k (v / 256 ^ i)
from_byte zero i v = refl
from_byte (suc k) i v =
    let next : v / 256 ^ suc i ≡ v / 256 ^ i / 256 = rw pow-suc (sym (div-div-eq-div-mul v (256 ^ i) 256)) in
    rw (byte_is i v, from_byte k (suc i) v, next)

-- the count in bits, of which eight bytes hold the low 64 bits
pub count_bytes : (v : ℕ) → bytes_low_first 0 8 (v % 2 ^ 64) ≡ le_bytes 8 v
count_bytes v =
    let whole : v % 2 ^ 64 / 256 ^ 0 ≡ v % 2 ^ 64 = omega arith in
    from_byte 8 0 (v % 2 ^ 64) ∙ rw whole (low_bytes 8 v)

-- the four words, written one after the other over all of buf
pub words_law : (q : State) (b b₁ b₂ b₃ buf : List ℕ) → b ≡ write buf 0 (le_bytes 4 q.a) → b₁ ≡ write b 4 (le_bytes 4 q.b) → b₂ ≡ write b₁ 8 (le_bytes 4 q.c)
    → b₃ ≡ write b₂ 12 (le_bytes 4 q.d) → length buf ≡ 16 → b₃ ≡ output q
words_law q b b₁ b₂ b₃ buf e e₁ e₂ e₃ long =
    let w₁ = write_then b b₁ buf 0 4 _ _ e e₁ refl in
    let w₂ = write_then b₁ b₂ buf 0 8 _ _ w₁ e₂ refl in
    write_then b₂ b₃ buf 0 12 _ _ w₂ e₃ refl ∙ write_whole buf (output q) (sym long)

-- zeros from place at on, and the count
pub ended : (b b' buf : List ℕ) (at n : ℕ) → b ≡ write buf at (replicate (56 - at) 0) → b' ≡ write b 56 (le_bytes 8 (n * 8)) → at ≤ 56
    → b' ≡ write buf at (replicate (56 - at) 0 ++ le_bytes 8 (n * 8))
ended b b' buf at n e g h = write_then b b' buf at 56 (replicate (56 - at) 0) (le_bytes 8 (n * 8)) e g (rw length-replicate (omega arith))
