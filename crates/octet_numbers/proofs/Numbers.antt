-- Numbers in bytes, over the width: what is written is read back, and a number beside the bytes written is kept.
-- The width n + 1 adds one low byte to the width n, on both sides.
-- Assumes nothing.
use mathlib.Core.Path.{◌≡◌, refl, ap, ◌∙◌}
use mathlib.Core.List.{List, [], ◌∷◌, ◌++◌}
use Prim.Native.Nat.{ℕ, zero, suc, ◌+◌, ◌*◌, ◌/◌, ◌%◌, ◌^◌, ◌≤◌, ◌<◌}
use native.Mathlib.Nat.{add-zero, pow-suc, div-add-mod', div-lt_iff_lt-mul}
use native.Mathlib.Numerals.{add-one}
use native.Mathlib.Omega.{arith}
use lib.ListN.{length, get_or, length-append, get_or-append}
use lib.Seq.{get_or-append_seam}
use Rattle.octet_numbers.specs.Numbers.{be, be_bytes}
use Rattle.octet_numbers.specs.Runs.{part, write}
use Rattle.octet_numbers.proofs.Write.{byte_before, byte_after, byte_within}
use Rattle.octet_numbers.proofs.Part.{byte_part}

pub be_two : (l : List ℕ) (at r : ℕ) → r ≡ get_or l at 0 * 256 + get_or l (at + 1) 0 → r ≡ be at 2 l
unfolding be
be_two l at r e = rw add-zero (omega arith)

pub length-be_bytes : (n v : ℕ) → length (be_bytes n v) ≡ n
unfolding be_bytes
length-be_bytes zero v = refl
length-be_bytes (suc n) v = length-append (be_bytes n (v / 256)) (v % 256 ∷ []) ∙ rw (length-be_bytes n (v / 256), add-one)

-- two lists with the same n bytes from their places on
pub be_same : (n : ℕ) (l m : List ℕ) (i j : ℕ) → ((k : ℕ) → k < n → get_or l (i + k) 0 ≡ get_or m (j + k) 0) → be i n l ≡ be j n m
unfolding be
be_same zero l m i j f = refl
be_same (suc n) l m i j f = rw (be_same n l m i j (λ k h. f k (omega arith)), f n (omega arith))

-- a number before the bytes written, and after them
pub be_before : (n : ℕ) (l : List ℕ) (i : ℕ) (vs : List ℕ) (at : ℕ) → at + n ≤ i → be at n (write l i vs) ≡ be at n l
be_before n l i vs at h = be_same n (write l i vs) l at at (λ k g. byte_before l i vs (at + k) (omega arith))

pub be-after : (n : ℕ) (l : List ℕ) (i : ℕ) (vs : List ℕ) (at : ℕ) → i + length vs ≤ at → be at n (write l i vs) ≡ be at n l
be-after n l i vs at h = be_same n (write l i vs) l at at (λ k g. byte_after l i vs (at + k) (omega arith))

-- a number in a part
pub be-part : (n : ℕ) (l : List ℕ) (i m at : ℕ) → at + n ≤ m → be at n (part i m l) ≡ be (i + at) n l
be-part n l i m at h =
    be_same n (part i m l) l at (i + at)
    (λ k g. byte_part i m l (at + k) (omega arith) ∙ ap (λ (j : ℕ). get_or l j 0) (omega arith))

-- the first bytes of a longer list
prefix : (n : ℕ) (l m : List ℕ) → n ≤ length l → be 0 n (l ++ m) ≡ be 0 n l
prefix n l m h = be_same n (l ++ m) l 0 0 (λ k g. get_or-append l m 0 (0 + k) (omega arith))

be_of_bytes : (n v : ℕ) → v < 256 ^ n → be 0 n (be_bytes n v) ≡ v
unfolding be be_bytes
be_of_bytes zero v h = omega arith
be_of_bytes (suc n) v h =
    let less : v / 256 < 256 ^ n = (div-lt_iff_lt-mul {k = 256} {x = v} {y = 256 ^ n} (omega arith)).1 (rw pow-suc at h) in
    let long : length (be_bytes n (v / 256)) ≡ n = length-be_bytes n (v / 256) in
    let top : be 0 n (be_bytes n (v / 256) ++ v % 256 ∷ []) ≡ v / 256 =
    prefix n (be_bytes n (v / 256)) (v % 256 ∷ []) (omega arith) ∙ be_of_bytes n (v / 256) less in
    let low : get_or (be_bytes n (v / 256) ++ v % 256 ∷ []) (0 + n) 0 ≡ v % 256 =
    ap (λ (k : ℕ). get_or (be_bytes n (v / 256) ++ v % 256 ∷ []) k 0) (omega arith) ∙ get_or-append_seam (be_bytes n (v / 256)) (v % 256) [] 0 in
    rw (top, low) (div-add-mod' v 256)

-- a number of n bytes that was written is read back, all of it
pub be-written : (n : ℕ) (l : List ℕ) (at v : ℕ) → v < 256 ^ n → at + n ≤ length l → be at n (write l at (be_bytes n v)) ≡ v
be-written n l at v h g =
    let long : length (be_bytes n v) ≡ n = length-be_bytes n v in
    be_same n (write l at (be_bytes n v)) (be_bytes n v) at 0
    (λ k f. byte_within l at (be_bytes n v) k (omega arith) (omega arith) ∙ ap (λ (j : ℕ). get_or (be_bytes n v) j 0) (omega arith))
    ∙ be_of_bytes n v h
