-- F with one operation less: d ^ (b & (c ^ d)) is (b & c) | (!b & d). Both sides have the same lowest bit, by a table of eight cases,
-- and the same half, by induction on the width. Assumes nothing.
use mathlib.Core.Path.{◌≡◌, refl}
use Prim.Native.Nat.{ℕ, zero, suc, ◌-◌, ◌*◌, ◌/◌, ◌%◌, ◌^◌, ◌<◌}
use native.Mathlib.Nat.{pow-suc}
use native.Mathlib.Omega.{arith}
use lib.Bits.{bit_and, bit_or, bit_xor, and_shr, or_shr, xor_shr, and_mod, or_mod, xor_mod, and_zero_l}
use Rattle.md5_ops.specs.Md5.{mix}

halves : (x y : ℕ) → x / 2 ≡ y / 2 → x % 2 ≡ y % 2 → x ≡ y
halves x y h b = omega arith

and_half : (a b : ℕ) → bit_and a b / 2 ≡ bit_and (a / 2) (b / 2)
and_half a b = and_shr a b 1

or_half : (a b : ℕ) → bit_or a b / 2 ≡ bit_or (a / 2) (b / 2)
or_half a b = or_shr a b 1

xor_half : (a b : ℕ) → bit_xor a b / 2 ≡ bit_xor (a / 2) (b / 2)
xor_half a b = xor_shr a b 1

and_bit : (a b : ℕ) → bit_and a b % 2 ≡ bit_and (a % 2) (b % 2)
and_bit a b = and_mod a b 1

or_bit : (a b : ℕ) → bit_or a b % 2 ≡ bit_or (a % 2) (b % 2)
or_bit a b = or_mod a b 1

xor_bit : (a b : ℕ) → bit_xor a b % 2 ≡ bit_xor (a % 2) (b % 2)
xor_bit a b = xor_mod a b 1

-- what holds of 0 and of 1 holds of every bit
of_bit : (P : ℕ → Type 0) → P 0 → P 1 → (x : ℕ) → P (x % 2)
of_bit P p₀ p₁ x = go (x % 2) (omega arith)
  where
    go : (y : ℕ) → y < 2 → P y
    go zero h = p₀
    go (suc zero) h = p₁
    go (suc (suc y)) h = absurd (omega arith)

abbrev Chosen : ℕ → ℕ → ℕ → Type 0
Chosen x y z = bit_xor z (bit_and x (bit_xor y z)) ≡ bit_or (bit_and x y) (bit_and (1 - x) z)

bits : (x y z : ℕ) → Chosen (x % 2) (y % 2) (z % 2)
bits x y z =
    of_bit (λ b. Chosen b (y % 2) (z % 2))
    (of_bit (λ c. Chosen 0 c (z % 2)) (of_bit (λ d. Chosen 0 0 d) refl refl z) (of_bit (λ d. Chosen 0 1 d) refl refl z) y)
    (of_bit (λ c. Chosen 1 c (z % 2)) (of_bit (λ d. Chosen 1 0 d) refl refl z) (of_bit (λ d. Chosen 1 1 d) refl refl z) y)
    x

choose : (k b c d : ℕ) → b < 2 ^ k → d < 2 ^ k → bit_xor d (bit_and b (bit_xor c d)) ≡ bit_or (bit_and b c) (bit_and (2 ^ k - 1 - b) d)
choose zero b c d hb hd =
    let eb : b ≡ 0 = omega arith in
    let ed : d ≡ 0 = omega arith in
    rw (eb, ed) (simp and_zero_l)
choose (suc k) b c d hb hd =
    let p : 2 ^ suc k ≡ 2 ^ k * 2 = pow-suc 2 k in
    let nh : (2 ^ suc k - 1 - b) / 2 ≡ 2 ^ k - 1 - b / 2 = omega arith in
    let nb : (2 ^ suc k - 1 - b) % 2 ≡ 1 - b % 2 = omega arith in
    halves _ _
    (simp (and_half, or_half, xor_half, nh) (choose k (b / 2) (c / 2) (d / 2) (omega arith) (omega arith)))
    (simp (and_bit, or_bit, xor_bit, nb) (bits b c d))

pub mix_f : (k b c d : ℕ) → k ≡ 0 → b < 2 ^ 32 → d < 2 ^ 32 → bit_xor d (bit_and b (bit_xor c d)) ≡ mix k b c d
mix_f k b c d e hb hd = rw e (choose 32 b c d hb hd)
