-- The words after blocks of a message. A block is cut out by its place alone, so what stands after it changes nothing, and blocks
-- can be taken in two parts. The padding fills the message up to whole blocks by the choice of its zeros. Assumes nothing.
use mathlib.Core.Path.{◌≡◌, refl, ◌∙◌}
use mathlib.Core.List.{List, ◌++◌}
use Prim.Native.Nat.{ℕ, zero, suc, ◌+◌, ◌-◌, ◌*◌, ◌/◌, ◌%◌, ◌≤◌}
use native.Mathlib.Nat.{add-zero, add-suc}
use native.Mathlib.Omega.{arith}
use lib.ListN.{length, drop, length-append, length-drop, length-replicate}
use lib.Seq.{take-append-le, drop-append-le, drop-drop}
use Rattle.md5_ops.specs.declared.State.{State}
use Rattle.md5_ops.specs.Md5.{after, block_at, padding, pad, output, md5}

block_at-append : (k : ℕ) (m t : List ℕ) → 64 * k + 64 ≤ length m → block_at k (m ++ t) ≡ block_at k m
block_at-append k m t h =
    rw (drop-append-le (64 * k) m t (omega arith), take-append-le 64 (drop (64 * k) m) t (simp length-drop (omega arith)))

-- whole blocks do not see what follows them
pub after-append : (q : State) (k : ℕ) (m t : List ℕ) → 64 * k ≤ length m → after q k (m ++ t) ≡ after q k m
after-append q zero m t h = refl
after-append q (suc k) m t h = rw (after-append q k m t (omega arith), block_at-append k m t (omega arith))

-- the first j blocks, and then k more
pub after-add : (q : State) (j k : ℕ) (m : List ℕ) → after q (j + k) m ≡ after (after q j m) k (drop (64 * j) m)
after-add q j zero m = rw add-zero
after-add q j (suc k) m =
    let e : 64 * (j + k) ≡ 64 * j + 64 * k = omega arith in
    rw (add-suc, after-add q j k m, e, drop-drop)

pub length-padding : (n : ℕ) → length (padding n) ≡ (119 - n % 64) % 64 + 9
length-padding n = simp (length-append, length-replicate) (omega arith)

pub length-pad : (m : List ℕ) → length (pad m) ≡ ((length m + 8) / 64 + 1) * 64
length-pad m = length-append m (padding (length m)) ∙ omega (arith, length-padding (length m))

-- a message of n bytes has (n + 8) / 64 + 1 blocks
pub block_count_lem : (m : List ℕ) → length (pad m) / 64 ≡ (length m + 8) / 64 + 1
block_count_lem m = omega (arith, length-pad m)

pub length-output : (q : State) → length (output q) ≡ 16
length-output q = refl

pub length-md5 : (m : List ℕ) → length (md5 m) ≡ 16
unfolding md5
length-md5 m = refl
