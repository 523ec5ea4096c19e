-- The key's block: a block of the pad byte with the key's bytes XOR it written over its start, since zero XOR the pad byte is the pad byte.
-- Assumes nothing.
use mathlib.Core.Path.{◌≡◌, refl, sym, ap, ◌∙◌}
use mathlib.Core.List.{List, [], ◌∷◌, ◌++◌, map}
use mathlib.Core.Logic.{◌⊎◌, inl, inr, ⊎_elim}
use Prim.Native.Nat.{ℕ, zero, suc, ◌+◌, ◌-◌, ◌<◌, ◌≤◌, zero-le, suc-le-suc}
use native.Mathlib.Nat.{zero-add, sub-zero}
use native.Mathlib.Numerals.{add-one}
use native.Mathlib.Omega.{arith}
use borrow.Author.Tests.{lt-ltb, le-ltb}
use lib.Bits.{bit_xor, xor_zero_l}
use lib.ListN.{length, get_or, set, take, drop, replicate, length-append, length-map, length-replicate}
use lib.Seq.{take-suc, take_all, length-take-le}
use Rattle.octet_numbers.specs.Runs.{write}
use Rattle.octet_numbers.proofs.Write.{write_nil, write_one, write-append, write_eq}
use Rattle.md5_ops.specs.Md5.{md5}
use Rattle.md5_ops.proofs.After.{length-md5}
use Rattle.md5_hmac.specs.Hmac.{short_key, key_pad}

-- the key's own bytes of the block
abbrev pub padded : ℕ → List ℕ → List ℕ
padded c k = map (λ x. bit_xor x c) k

byte_padded : (c : ℕ) (k : List ℕ) (i : ℕ) → i < length k → get_or (padded c k) i 0 ≡ bit_xor (get_or k i 0) c
byte_padded c [] i h = absurd (omega arith)
byte_padded c (x ∷ k) zero h = refl
byte_padded c (x ∷ k) (suc i) h = byte_padded c k i (omega arith)

-- the loop that writes them: none yet, one more, all
pub key_none : (c : ℕ) (k l : List ℕ) → l ≡ write l 0 (take 0 (padded c k))
key_none c k l = write_nil l 0

pub key_byte : (c : ℕ) (k r l : List ℕ) (i : ℕ) → r ≡ write l 0 (take i (padded c k)) → i < length k
    → set r i (bit_xor (get_or k i 0) c) ≡ write l 0 (take (i + 1) (padded c k))
key_byte c k r l i e h =
    let long : i < length (padded c k) = rw length-map h in
    let at : 0 + length (take i (padded c k)) ≡ i = rw zero-add (length-take-le i (padded c k) (omega arith)) in
    let w = write-append l 0 (take i (padded c k)) (bit_xor (get_or k i 0) c ∷ []) in
    rw (e, add-one, take-suc (padded c k) i 0 long, byte_padded c k i h)
    (write_one (write l 0 (take i (padded c k))) i (bit_xor (get_or k i 0) c) ∙ sym (rw at at w))

map-append : (f : ℕ → ℕ) (k l : List ℕ) → map f (k ++ l) ≡ map f k ++ map f l
map-append f [] l = refl
map-append f (x ∷ k) l = ap (λ (t : List ℕ). f x ∷ t) (map-append f k l)

map-replicate : (f : ℕ → ℕ) (n x : ℕ) → map f (replicate n x) ≡ replicate n (f x)
map-replicate f zero x = refl
map-replicate f (suc n) x = ap (λ (t : List ℕ). f x ∷ t) (map-replicate f n x)

drop-replicate : (j n c : ℕ) → drop j (replicate n c) ≡ replicate (n - j) c
drop-replicate zero n c = rw sub-zero
drop-replicate (suc j) zero c = let e : 0 - suc j ≡ 0 = omega arith in rw e
drop-replicate (suc j) (suc n) c = let e : suc n - suc j ≡ n - j = omega arith in rw e (drop-replicate j n c)

pub key_all : (c : ℕ) (k r : List ℕ) (i : ℕ) → r ≡ write (replicate 64 c) 0 (take i (padded c k)) → length k ≤ i → length k ≤ 64 → r ≡ key_pad c k
unfolding key_pad
key_all c k r i e h l =
    let zeros : map (λ x. bit_xor x c) (replicate (64 - length k) 0) ≡ replicate (64 - length k) c =
    map-replicate (λ x. bit_xor x c) (64 - length k) 0 ∙ ap (replicate (64 - length k)) (xor_zero_l c) in
    let long : length (padded c k) ≡ length k = length-map k (λ x. bit_xor x c) in
    let room : 0 + length (padded c k) ≤ length (replicate 64 c) = rw (length-replicate, zero-add, long) l in
    let w = e ∙ ap (write (replicate 64 c) 0) (take_all i (padded c k) (rw long h)) ∙ write_eq (replicate 64 c) 0 (padded c k) room in
    rw (map-append (λ x. bit_xor x c) k (replicate (64 - length k) 0), zeros)
    (w ∙ rw (zero-add, long, drop-replicate (length k) 64 c))

pub length-key_pad : (c : ℕ) (k : List ℕ) → length k ≤ 64 → length (key_pad c k) ≡ 64
unfolding key_pad
length-key_pad c k h = rw (length-map, length-append, length-replicate) (omega arith)

-- a key that is too long, and one that is not
pub short_long : (k : List ℕ) → 64 < length k → short_key k ≡ md5 k
unfolding short_key
short_long k h = rw (lt-ltb _ _ h)

pub short_same : (k : List ℕ) → length k ≤ 64 → short_key k ≡ k
unfolding short_key
short_same k h = rw (le-ltb _ _ h)

pub length-short_key : (k : List ℕ) → length (short_key k) ≤ 64
length-short_key k =
    ⊎_elim
    (λ (h : 64 < length k). rw (short_long k h, length-md5) (omega arith))
    (λ (h : length k ≤ 64). rw (short_same k h) h)
    (below 64 (length k))
  where
    below : (a b : ℕ) → (a < b) ⊎ (b ≤ a)
    below a zero = inr zero-le
    below zero (suc b) = inl (suc-le-suc zero-le)
    below (suc a) (suc b) = ⊎_elim (λ p. inl (suc-le-suc p)) (λ q. inr (suc-le-suc q)) (below a b)
