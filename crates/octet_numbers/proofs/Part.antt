-- Parts of a byte run, and what a write does to them: a part beside the bytes written is kept, a write within a part is that write to the part.
-- Assumes nothing.
use mathlib.Core.Path.{◌≡◌, refl, sym, ap, ◌∙◌}
use mathlib.Core.List.{List, [], ◌∷◌}
use Prim.Native.Nat.{ℕ, zero, suc, ◌+◌, ◌-◌, ◌≤◌, ◌<◌}
use native.Mathlib.Nat.{add-suc, add-zero, sub-zero}
use native.Mathlib.Omega.{arith}
use lib.ListN.{length, get_or, take, drop, set, length-take, length-drop, drop_of_length-le}
use lib.Seq.{sets, take-nil, take_all, take-take, drop-drop, get_or-take, get_or-drop, take-set-le, take-set-lt, drop-set-lt, drop-set-add}
use Rattle.octet_numbers.specs.Runs.{part, write}
use Rattle.octet_numbers.proofs.Write.{write_whole}

pub length_part : (i n : ℕ) (l : List ℕ) → i + n ≤ length l → length (part i n l) ≡ n
unfolding part
length_part i n l h = simp (length-take, length-drop) (omega arith)

pub byte_part : (i n : ℕ) (l : List ℕ) (j : ℕ) → j < n → get_or (part i n l) j 0 ≡ get_or l (i + j) 0
unfolding part
byte_part i n l j h = rw (get_or-take, get_or-drop)

-- the code's `&l[i..i + n]`
pub part_of : (i n : ℕ) (l : List ℕ) → take (i + n - i) (drop i l) ≡ part i n l
unfolding part
part_of i n l = let e : i + n - i ≡ n = omega arith in rw e

-- a part after the end, and one that the list ends in
pub part_past : (i n : ℕ) (l : List ℕ) → length l ≤ i → take 0 l ≡ part i n l
unfolding part
part_past i n l h = rw (drop_of_length-le l h) (sym (take-nil n))

pub part_rest : (i n : ℕ) (l : List ℕ) → length l - i ≤ n → take (length l - i) (drop i l) ≡ part i n l
unfolding part
part_rest i n l h = take_all (length l - i) (drop i l) (simp length-drop (omega arith)) ∙ sym (take_all n (drop i l) (simp length-drop h))

pub part_whole : (l : List ℕ) → part 0 (length l) l ≡ l
unfolding part
part_whole l = take_all (length l) l (omega arith)

pub drop-take : (i n : ℕ) (l : List ℕ) → drop i (take n l) ≡ take (n - i) (drop i l)
drop-take zero n l = rw sub-zero
drop-take (suc i) zero l = let e : 0 - suc i ≡ 0 = omega arith in rw e
drop-take (suc i) (suc n) [] = sym (take-nil (suc n - suc i))
drop-take (suc i) (suc n) (x ∷ l) = let e : suc n - suc i ≡ n - i = omega arith in rw e (drop-take i n l)

-- a part of a part
pub part-part : (i m j n : ℕ) (l : List ℕ) → i + m ≤ n → part i m (part j n l) ≡ part (j + i) m l
unfolding part
part-part i m j n l h = rw (drop-take i n (drop j l), take-take m (n - i) (drop i (drop j l)) (omega arith), drop-drop i j l)

kept_before : (vs l : List ℕ) (i m n : ℕ) → i + length vs ≤ m → part m n (sets l i vs) ≡ part m n l
unfolding part
kept_before [] l i m n h = refl
kept_before (a ∷ vs) l i m n h = kept_before vs (set l i a) (suc i) m n (omega arith) ∙ ap (take n) (drop-set-lt m l i a (omega arith))

store_after : (l : List ℕ) (i a m n : ℕ) → m + n ≤ i → part m n (set l i a) ≡ part m n l
unfolding part
store_after l i a m n h =
    let e : i ≡ m + (i - m) = omega arith in
    let g : n ≤ i - m = omega arith in
    ap (λ (k : ℕ). take n (drop m (set l k a))) e ∙ ap (take n) (drop-set-add m l (i - m) a) ∙ take-set-le n (drop m l) (i - m) a g

kept_after : (vs l : List ℕ) (i m n : ℕ) → m + n ≤ i → part m n (sets l i vs) ≡ part m n l
kept_after [] l i m n h = refl
kept_after (a ∷ vs) l i m n h = kept_after vs (set l i a) (suc i) m n (omega arith) ∙ store_after l i a m n h

inside : (vs l : List ℕ) (m n i : ℕ) → i + length vs ≤ n → part m n (sets l (m + i) vs) ≡ sets (part m n l) i vs
unfolding part
inside [] l m n i h = refl
inside (a ∷ vs) l m n i h =
    rw (← (add-suc m i)) (inside vs (set l (m + i) a) m n (suc i) (omega arith))
    ∙ ap (λ (t : List ℕ). sets t (suc i) vs) (ap (take n) (drop-set-add m l i a) ∙ take-set-lt n (drop m l) i a (omega arith))

-- a part after the bytes written, and one before them
pub part-after : (l : List ℕ) (i : ℕ) (vs : List ℕ) (m n : ℕ) → i + length vs ≤ m → part m n (write l i vs) ≡ part m n l
unfolding write
part-after l i vs m n h = kept_before vs l i m n h

pub part_before : (l : List ℕ) (i : ℕ) (vs : List ℕ) (m n : ℕ) → m + n ≤ i → part m n (write l i vs) ≡ part m n l
unfolding write
part_before l i vs m n h = kept_after vs l i m n h

-- a write within a part is that write to the part
pub part-write : (l : List ℕ) (m n i : ℕ) (vs : List ℕ) → i + length vs ≤ n → part m n (write l (m + i) vs) ≡ write (part m n l) i vs
unfolding write
part-write l m n i vs h = inside vs l m n i h

-- what was written is read back
pub part-written : (l : List ℕ) (i : ℕ) (vs : List ℕ) → i + length vs ≤ length l → part i (length vs) (write l i vs) ≡ vs
part-written l i vs h =
    ap (λ (k : ℕ). part i (length vs) (write l k vs)) (sym (add-zero i))
    ∙ part-write l i (length vs) 0 vs (omega arith)
    ∙ write_whole (part i (length vs) l) vs (sym (length_part i (length vs) l h))
