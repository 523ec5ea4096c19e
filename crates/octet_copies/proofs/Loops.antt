-- The loops that copy: what they have made of the list l after each turn is a write of so many bytes, so a turn adds its bytes after them.
-- Assumes nothing.
use mathlib.Core.Path.{◌≡◌, refl, sym, ap, ◌∙◌}
use mathlib.Core.List.{List, [], ◌∷◌, ◌++◌}
use Prim.Native.Nat.{ℕ, suc, ◌+◌, ◌-◌, ◌*◌, ◌/◌, ◌≤◌, ◌<◌}
use native.Mathlib.Numerals.{add-one, towards_suc}
use native.Mathlib.Omega.{arith}
use lib.ListN.{length, get_or, take, drop, set}
use lib.Seq.{drop-cons, take_all, take-length, take-suc, take-add, length-take-le}
use Rattle.octet_numbers.specs.Runs.{part, write}
use Rattle.octet_numbers.proofs.Write.{write_nil, write_one, write-append, write_then}

-- ---- v goes to place i of l: t is what has been made of l

pub copy_none : (l : List ℕ) (i : ℕ) (v : List ℕ) → l ≡ write l i (take 0 v)
copy_none l i v = write_nil l i

-- n bytes more
pub copy_part : (t t' l : List ℕ) (i j n : ℕ) (v : List ℕ) → t ≡ write l i (take j v) → t' ≡ write t (i + j) (part j n v) → j ≤ length v
    → t' ≡ write l i (take (j + n) v)
unfolding part
copy_part t t' l i j n v e g h =
    let w : write l i (take j v ++ take n (drop j v)) ≡ write (write l i (take j v)) (i + length (take j v)) (take n (drop j v)) =
    write-append l i (take j v) (take n (drop j v)) in
    g ∙ rw (e, take-add j n v) (sym (rw (length-take-le j v h) at w))

-- all that are left
pub copy_rest : (t t' l : List ℕ) (i j : ℕ) (v : List ℕ) → t ≡ write l i (take j v)
    → t' ≡ write t (i + j) (take (length v - j) (drop j v)) → j ≤ length v → t' ≡ write l i v
unfolding part
copy_rest t t' l i j v e g h =
    let z : j + (length v - j) ≡ length v = omega arith in
    copy_part t t' l i j (length v - j) v e g h ∙ rw (z, take-length)

-- one byte more
pub copy_byte : (t l : List ℕ) (i : ℕ) (v : List ℕ) (j : ℕ) → t ≡ write l i (take j v) → j < length v
    → set t (i + j) (get_or v j 0) ≡ write l i (take (j + 1) v)
copy_byte t l i v j e h =
    let le : j ≤ length v = omega arith in
    let w = write-append l i (take j v) (get_or v j 0 ∷ []) in
    rw (e, add-one, take-suc v j 0 h) (write_one (write l i (take j v)) (i + j) (get_or v j 0) ∙ sym (rw length-take-le at w))

pub copy_all : (t l : List ℕ) (i : ℕ) (v : List ℕ) (j : ℕ) → t ≡ write l i (take j v) → length v ≤ j → t ≡ write l i v
copy_all t l i v j e h = e ∙ ap (write l i) (take_all j v h)

-- ---- by words of eight bytes: one word more

pub word_more : (t t' l : List ℕ) (i k : ℕ) (v : List ℕ) → t ≡ write l i (take (k * 8) v)
    → t' ≡ write t (i + k * 8) (part (k * 8) 8 v) → k < length v / 8 → t' ≡ write l i (take ((k + 1) * 8) v)
word_more t t' l i k v e g h =
    let z : (k + 1) * 8 ≡ k * 8 + 8 = omega arith in
    rw z (copy_part t t' l i (k * 8) 8 v e g (omega arith))

-- the bytes that are left after the words
pub words_rest : (t t' l : List ℕ) (i k : ℕ) (v : List ℕ) → t ≡ write l i (take (k * 8) v)
    → t' ≡ write t (i + length v / 8 * 8) (take (length v - length v / 8 * 8) (drop (length v / 8 * 8) v))
    → length v / 8 ≤ k → k ≤ length v / 8 → t' ≡ write l i v
words_rest t t' l i k v e g h f =
    let z : length v / 8 ≡ k = omega arith in
    copy_rest t t' l i (length v / 8 * 8) v (rw z e) g (omega arith)

-- ---- a word of eight bytes, in two writes of four

-- the first byte of a part
part_cons : (v : List ℕ) (j n : ℕ) → j < length v → part j (suc n) v ≡ get_or v j 0 ∷ part (suc j) n v
unfolding part
part_cons v j n h = rw (drop-cons v j 0 h)

part_none : (v : List ℕ) (j : ℕ) → part j 0 v ≡ []
unfolding part
part_none v j = refl

part_eight : (v : List ℕ) (j : ℕ) → j + 8 ≤ length v
    → part j 8 v
    ≡ get_or v j 0 ∷ get_or v (j + 1) 0 ∷ get_or v (j + 2) 0 ∷ get_or v (j + 3) 0
    ∷ get_or v (j + 4) 0 ∷ get_or v (j + 5) 0 ∷ get_or v (j + 6) 0 ∷ get_or v (j + 7) 0 ∷ []
part_eight v j h =
    rw (
      part_cons v j 7 (omega arith),
      part_cons v (suc j) 6 (omega arith),
      part_cons v (suc (suc j)) 5 (omega arith),
      part_cons v (suc (suc (suc j))) 4 (omega arith),
      part_cons v (suc (suc (suc (suc j)))) 3 (omega arith),
      part_cons v (suc (suc (suc (suc (suc j))))) 2 (omega arith),
      part_cons v (suc (suc (suc (suc (suc (suc j)))))) 1 (omega arith),
      part_cons v (suc (suc (suc (suc (suc (suc (suc j))))))) 0 (omega arith),
      part_none,
    )
    (simp towards_suc)

pub store_eight : (t t' l : List ℕ) (i : ℕ) (v : List ℕ) (j : ℕ)
    → t ≡ write l i (get_or v j 0 ∷ get_or v (j + 1) 0 ∷ get_or v (j + 2) 0 ∷ get_or v (j + 3) 0 ∷ [])
    → t' ≡ write t (i + 4) (get_or v (j + 4) 0 ∷ get_or v (j + 5) 0 ∷ get_or v (j + 6) 0 ∷ get_or v (j + 7) 0 ∷ [])
    → j + 8 ≤ length v → t' ≡ write l i (part j 8 v)
store_eight t t' l i v j e g h = write_then t t' l i (i + 4) _ _ e g refl ∙ ap (write l i) (sym (part_eight v j h))
