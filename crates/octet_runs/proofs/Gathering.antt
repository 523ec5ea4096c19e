-- The loop that gathers the differences of all bytes in d: the bytes looked at are equal exactly where it has gathered nothing.
-- Assumes nothing.
use mathlib.Core.Path.{◌≡◌, refl, sym, ap, ◌∙◌}
use mathlib.Core.Bool.{Bool, true, false, ◌&&◌, and-true}
use mathlib.Core.List.{List, [], ◌∷◌, ◌++◌}
use Prim.Native.Nat.{ℕ, ◌+◌, ◌≤◌, ◌<◌}
use native.Mathlib.Numerals.{add-one}
use native.Mathlib.Omega.{arith}
use borrow.Author.Tests.{eqb-true, eqb-false, eq-eqb, ne_eqb}
use lib.Bits.{bit_or, bit_xor, or_zero_l, xor_self, or_add_and, xor_add_and, and_le_l, and_le_r}
use lib.Dec.{eqb}
use lib.ListN.{length, get_or, take, drop, length-drop}
use lib.Seq.{take-suc, get_or-drop, length-take-le}
use Rattle.octet_numbers.specs.Runs.{part, equal_bytes}
use Rattle.octet_runs.proofs.Backward.{same_append}

snoc : (l m : List ℕ) (x y : ℕ) → length l ≡ length m → equal_bytes (l ++ (x ∷ [])) (m ++ (y ∷ [])) ≡ equal_bytes l m && eqb x y
unfolding equal_bytes
snoc l m x y h = same_append l m (x ∷ []) (y ∷ []) h ∙ ap (λ (t : Bool). equal_bytes l m && t) (and-true (eqb x y))

gather : (d x y : ℕ) (s t : Bool) → eqb d 0 ≡ s → eqb x y ≡ t → eqb (bit_or d (bit_xor x y)) 0 ≡ s && t
gather d x y true true h k =
    let e : d ≡ 0 = eqb-true d 0 h in
    let g : bit_xor x y ≡ 0 = ap (λ (z : ℕ). bit_xor x z) (sym (eqb-true x y k)) ∙ xor_self x in
    eq-eqb (bit_or d (bit_xor x y)) 0 (ap (λ (z : ℕ). bit_or z (bit_xor x y)) e ∙ or_zero_l (bit_xor x y) ∙ g)
gather d x y true false h k =
    ne_eqb (bit_or d (bit_xor x y)) 0
    (λ z. eqb-false x y k (omega (arith, or_add_and d (bit_xor x y), and_le_l d (bit_xor x y), and_le_r d (bit_xor x y), xor_add_and x y, and_le_l x y, and_le_r x y)))
gather d x y false t h k =
    ne_eqb (bit_or d (bit_xor x y)) 0
    (λ z. eqb-false d 0 h (omega (arith, or_add_and d (bit_xor x y), and_le_l d (bit_xor x y), and_le_r d (bit_xor x y))))

pub gather_none : (a b : List ℕ) (i j : ℕ) → eqb 0 0 ≡ equal_bytes (part i 0 a) (part j 0 b)
unfolding equal_bytes part
gather_none a b i j = refl

-- n of w bytes of a from place i and of b from place j are gathered; then one more
pub gather_next : (a b : List ℕ) (i j n w d : ℕ) → eqb d 0 ≡ equal_bytes (part i n a) (part j n b) → i + w ≤ length a → j + w ≤ length b → n < w
    → eqb (bit_or d (bit_xor (get_or a (i + n) 0) (get_or b (j + n) 0))) 0 ≡ equal_bytes (part i (n + 1) a) (part j (n + 1) b)
unfolding part
gather_next a b i j n w d e ha hb h =
    let la : n < length (drop i a) = rw length-drop (omega arith) in
    let lb : n < length (drop j b) = rw length-drop (omega arith) in
    let l : length (take n (drop i a)) ≡ length (take n (drop j b)) = length-take-le n (drop i a) (omega arith) ∙ sym (length-take-le n (drop j b) (omega arith)) in
    gather d (get_or a (i + n) 0) (get_or b (j + n) 0) (equal_bytes (take n (drop i a)) (take n (drop j b))) (eqb (get_or a (i + n) 0) (get_or b (j + n) 0)) e refl
    ∙ sym (rw (add-one n, take-suc (drop i a) n 0 la, take-suc (drop j b) n 0 lb, get_or-drop i a n 0, get_or-drop j b n 0)
    (snoc (take n (drop i a)) (take n (drop j b)) (get_or a (i + n) 0) (get_or b (j + n) 0) l))
