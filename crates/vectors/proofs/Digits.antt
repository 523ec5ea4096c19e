-- A line of digits, two written a turn over a line of line ends, of which the last stays.
-- Assumes nothing.
use mathlib.Core.Path.{◌≡◌, refl, sym, ap, ◌∙◌}
use mathlib.Core.List.{List, [], ◌∷◌, ◌++◌}
use Prim.Native.Nat.{ℕ, ◌+◌, ◌*◌, ◌/◌, ◌%◌, ◌<◌, ◌≤◌}
use native.Mathlib.Numerals.{add-one}
use native.Mathlib.Omega.{arith}
use lib.ListN.{length, get_or, set, take, replicate}
use lib.Seq.{take-suc, take_all, length-take-le}
use Rattle.octet_numbers.specs.Runs.{write}
use Rattle.octet_numbers.proofs.Write.{write_nil, write-append, write_eq}
use Rattle.vectors.specs.Hex.{digit_of, hex_of, hex_line}

hex_append : (xs ys : List ℕ) → hex_of (xs ++ ys) ≡ hex_of xs ++ hex_of ys
unfolding hex_of
hex_append [] ys = refl
hex_append (x ∷ xs) ys = ap (λ (l : List ℕ). digit_of (x / 16) ∷ digit_of (x % 16) ∷ l) (hex_append xs ys)

length_hex : (xs : List ℕ) → length (hex_of xs) ≡ 2 * length xs
unfolding hex_of
length_hex [] = refl
length_hex (x ∷ xs) = let h = length_hex xs in omega arith

pub hex_none : (l d : List ℕ) → l ≡ write l 0 (hex_of (take 0 d))
unfolding hex_of
hex_none l d = write_nil l 0

store_two : (l : List ℕ) (i a b : ℕ) → set (set l i a) (i + 1) b ≡ write l i (a ∷ b ∷ [])
unfolding write
store_two l i a b = rw add-one

-- the digits of one byte more
pub hex_more : (t l d : List ℕ) (i a b : ℕ) → t ≡ write l 0 (hex_of (take i d)) → a ≡ digit_of (get_or d i 0 / 16) → b ≡ digit_of (get_or d i 0 % 16) → i < length d
    → set (set t (2 * i) a) (2 * i + 1) b ≡ write l 0 (hex_of (take (i + 1) d))
unfolding hex_of
hex_more t l d i a b e ea eb h =
    let le : i ≤ length d = omega arith in
    let long : length (hex_of (take i d)) ≡ 2 * i = length_hex (take i d) ∙ ap (λ (n : ℕ). 2 * n) (length-take-le i d le) in
    let at : 0 + length (hex_of (take i d)) ≡ 2 * i = omega arith in
    store_two t (2 * i) a b
    ∙ rw (e, ea, eb, add-one, take-suc d i 0 h, hex_append (take i d) (get_or d i 0 ∷ []))
    (sym (rw at at (write-append l 0 (hex_of (take i d)) (digit_of (get_or d i 0 / 16) ∷ digit_of (get_or d i 0 % 16) ∷ []))))

pub hex_all : (t d : List ℕ) (i : ℕ) → t ≡ write (replicate 33 10) 0 (hex_of (take i d)) → 16 ≤ i → length d ≡ 16 → t ≡ hex_line d
unfolding hex_line
hex_all t d i e h l =
    let long : 0 + length (hex_of d) ≡ 32 = rw (length_hex d, l) in
    e ∙ ap (λ (x : List ℕ). write (replicate 33 10) 0 (hex_of x)) (take_all i d (omega arith)) ∙ write_eq (replicate 33 10) 0 (hex_of d) (rw long (omega arith)) ∙ rw long
