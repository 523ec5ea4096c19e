-- The turns of the two loops that compare texts, by four bytes and by one: the general law of the bytes before place i, for these widths.
-- Assumes nothing.
use mathlib.Core.Path.{◌≡◌, sym, ap, ◌∙◌}
use mathlib.Core.Bool.{false}
use mathlib.Core.List.{List, [], ◌∷◌, reverse}
use Prim.Native.Nat.{ℕ, ◌+◌, ◌-◌, ◌≤◌, ◌<◌}
use native.Mathlib.Omega.{arith}
use borrow.Author.Tests.{ne_eqb}
use mir.Syntax.{w8}
use mir.Val.{Fits}
use lib.ListN.{length, get_or, take}
use lib.Seq.{drop-cons}
use Rattle.octet_numbers.specs.Numbers.{be, be_bytes}
use Rattle.octet_numbers.specs.Runs.{part, equal_bytes}
use Rattle.octet_runs.specs.Compared.{pairs_from, same_text, pairs_compared, compared_of}
use Rattle.octet_runs.proofs.Backward.{next_same, next_count, apart}
use Rattle.octet_runs.proofs.Digits.{digits, part_number}

-- one byte as a part
one : (l : List ℕ) (j : ℕ) → j < length l → part j 1 l ≡ get_or l j 0 ∷ []
unfolding part
one l j h = rw (drop-cons l j 0 h)

module _
    (a b : List ℕ) (n i : ℕ)
    (same : same_text a b ≡ equal_bytes (reverse (take i a)) (reverse (take i b)))
    (count : pairs_compared a b ≡ n - i + pairs_from (reverse (take i a)) (reverse (take i b)))
    (la : n ≡ length a) (lb : n ≡ length b) (most : i ≤ n) where
  -- x and y are the four bytes before i as numbers
  module _
      (x y : ℕ) (ex : x ≡ be (i - 4) 4 a) (ey : y ≡ be (i - 4) 4 b) (room : 4 ≤ i)
      (fa : (k : ℕ) → Fits w8 (get_or a k 0)) (fb : (k : ℕ) → Fits w8 (get_or b k 0)) where
    digits_a : be_bytes 4 x ≡ part (i - 4) 4 a
    digits_a = rw ex (digits a (i - 4) 4 (omega arith) fa)

    digits_b : be_bytes 4 y ≡ part (i - 4) 4 b
    digits_b = rw ey (digits b (i - 4) 4 (omega arith) fb)

    pub words_apart : (p : ℕ) → p ≡ pairs_from (reverse (be_bytes 4 x)) (reverse (be_bytes 4 y)) → (x ≡ y → ⊥)
        → record { same = false; pairs = n - i + p } ≡ compared_of a b
    words_apart p e d =
        apart a b n i same count la lb most (i - 4) 4 (omega arith) p (λ s. d (ex ∙ part_number a b (i - 4) 4 s ∙ sym ey))
        (rw (← digits_a, ← digits_b) e)

    same_four : x ≡ y → part (i - 4) 4 a ≡ part (i - 4) 4 b
    same_four e = sym digits_a ∙ ap (be_bytes 4) e ∙ digits_b

    pub words_same : x ≡ y → same_text a b ≡ equal_bytes (reverse (take (i - 4) a)) (reverse (take (i - 4) b))
    words_same e = next_same a b n i same count la lb most (i - 4) 4 (omega arith) (same_four e)

    pub words_count : x ≡ y → pairs_compared a b ≡ n - (i - 4) + pairs_from (reverse (take (i - 4) a)) (reverse (take (i - 4) b))
    words_count e = next_count a b n i same count la lb most (i - 4) 4 (omega arith) (same_four e)

  module _ (room : 0 < i) where
    one_a : part (i - 1) 1 a ≡ get_or a (i - 1) 0 ∷ []
    one_a = one a (i - 1) (omega arith)

    one_b : part (i - 1) 1 b ≡ get_or b (i - 1) 0 ∷ []
    one_b = one b (i - 1) (omega arith)

    pub bytes_apart : (get_or a (i - 1) 0 ≡ get_or b (i - 1) 0 → ⊥) → record { same = false; pairs = n - (i - 1) } ≡ compared_of a b
    unfolding pairs_from
    bytes_apart d =
        let counted : n - (i - 1) ≡ n - i + 1 = omega arith in
        rw counted
        (apart a b n i same count la lb most (i - 1) 1 (omega arith) 1 (λ s. d (ap (λ (l : List ℕ). get_or l 0 0) (sym one_a ∙ s ∙ one_b)))
        (rw (one_a, one_b, ne_eqb (get_or a (i - 1) 0) (get_or b (i - 1) 0) d)))

    same_one : get_or a (i - 1) 0 ≡ get_or b (i - 1) 0 → part (i - 1) 1 a ≡ part (i - 1) 1 b
    same_one e = one_a ∙ ap (λ (z : ℕ). z ∷ []) e ∙ sym one_b

    pub bytes_same : get_or a (i - 1) 0 ≡ get_or b (i - 1) 0 → same_text a b ≡ equal_bytes (reverse (take (i - 1) a)) (reverse (take (i - 1) b))
    bytes_same e = next_same a b n i same count la lb most (i - 1) 1 (omega arith) (same_one e)

    pub bytes_count : get_or a (i - 1) 0 ≡ get_or b (i - 1) 0
        → pairs_compared a b ≡ n - (i - 1) + pairs_from (reverse (take (i - 1) a)) (reverse (take (i - 1) b))
    bytes_count e = next_count a b n i same count la lb most (i - 1) 1 (omega arith) (same_one e)
