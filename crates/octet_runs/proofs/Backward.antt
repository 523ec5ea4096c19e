-- Two texts compared from the last byte on. What stands before place i is not yet compared and decides the rest of the answer; where the m bytes
-- before i are the same, all m pairs are counted and those before them decide; where they are not, they decide alone.
-- Assumes nothing.
use mathlib.Core.Path.{◌≡◌, refl, sym, ap, ◌∙◌}
use mathlib.Core.Bool.{Bool, true, false, cond, ◌&&◌, and_assoc, true≢false, false≢true}
use mathlib.Core.List.{List, [], ◌∷◌, ◌++◌, reverse, reverse-append, reverse-reverse}
use Prim.Native.Nat.{ℕ, ◌+◌, ◌-◌, ◌≤◌}
use native.Mathlib.Nat.{zero-add}
use native.Mathlib.Omega.{arith}
use borrow.Author.Tests.{eq-eqb, ne_eqb}
use lib.Dec.{eqb}
use lib.ListN.{length, take, drop, length-reverse}
use lib.Seq.{take-add, take_all}
use Rattle.octet_numbers.specs.Runs.{part, equal_bytes}
use Rattle.octet_numbers.proofs.Equality.{and_both, equal_true, equal_refl, equal_false}
use Rattle.octet_numbers.proofs.Part.{length_part}
use Rattle.octet_runs.specs.declared.Compared as D
use Rattle.octet_runs.specs.Compared.{pairs_from, same_text, pairs_compared, compared_of}

-- ---- runs that begin with two as long as each other

pub same_append : (u v s t : List ℕ) → length u ≡ length v → equal_bytes (u ++ s) (v ++ t) ≡ equal_bytes u v && equal_bytes s t
unfolding equal_bytes
same_append [] [] s t h = refl
same_append [] (y ∷ v) s t h = absurd (omega arith)
same_append (x ∷ u) [] s t h = absurd (omega arith)
same_append (x ∷ u) (y ∷ v) s t h =
    ap (λ (r : Bool). eqb x y && r) (same_append u v s t (omega arith)) ∙ sym (and_assoc (eqb x y) (equal_bytes u v) (equal_bytes s t))

same_pairs : (u s t : List ℕ) → pairs_from (u ++ s) (u ++ t) ≡ length u + pairs_from s t
unfolding pairs_from
same_pairs [] s t = sym (zero-add (pairs_from s t))
same_pairs (x ∷ u) s t = rw (eq-eqb x x refl, same_pairs u s t) (omega arith)

other_pairs : (u v s t : List ℕ) → length u ≡ length v → equal_bytes u v ≡ false → pairs_from (u ++ s) (v ++ t) ≡ pairs_from u v
unfolding pairs_from equal_bytes
other_pairs [] [] s t h n = absurd (true≢false n)
other_pairs [] (y ∷ v) s t h n = absurd (omega arith)
other_pairs (x ∷ u) [] s t h n = absurd (omega arith)
other_pairs (x ∷ u) (y ∷ v) s t h n = by (eqb x y) n (other_pairs u v s t (omega arith))
  where
    by : (r : Bool) → r && equal_bytes u v ≡ false → (equal_bytes u v ≡ false → pairs_from (u ++ s) (v ++ t) ≡ pairs_from u v)
        → cond r (1 + pairs_from (u ++ s) (v ++ t)) 1 ≡ cond r (1 + pairs_from u v) 1
    by true d f = ap (λ (k : ℕ). 1 + k) (f d)
    by false d f = refl

-- the last m bytes before place j + m, last one first, and what stands before them
cut : (l : List ℕ) (j m : ℕ) → reverse (take (j + m) l) ≡ reverse (part j m l) ++ reverse (take j l)
unfolding part
cut l j m = rw (take-add j m l) (reverse-append (take j l) (take m (drop j l)))

unreversed : (u v : List ℕ) → reverse u ≡ reverse v → u ≡ v
unreversed u v e = sym (reverse-reverse u) ∙ ap reverse e ∙ reverse-reverse v

-- the two answers as one
both : (a b : List ℕ) (r : Bool) (p : ℕ) → same_text a b ≡ r → pairs_compared a b ≡ p → record { same = r; pairs = p } ≡ compared_of a b
both a b r p e g = rw (e, g)

-- lengths that differ
pub other_length : (a b : List ℕ) → (length a ≡ length b → ⊥) → record { same = false; pairs = 0 } ≡ compared_of a b
unfolding same_text pairs_compared
other_length a b d = rw (ne_eqb (length a) (length b) d)

-- before the first pair is compared
module _ (a b : List ℕ) (n : ℕ) (la : n ≡ length a) (lb : n ≡ length b) where
  whole : (l : List ℕ) → n ≡ length l → take n l ≡ l
  whole l e = take_all n l (omega arith)

  pub first_same : same_text a b ≡ equal_bytes (reverse (take n a)) (reverse (take n b))
  unfolding same_text
  first_same = rw (whole a la, whole b lb, eq-eqb (length a) (length b) (sym la ∙ lb))

  pub first_count : pairs_compared a b ≡ n - n + pairs_from (reverse (take n a)) (reverse (take n b))
  unfolding pairs_compared
  first_count = rw (whole a la, whole b lb, eq-eqb (length a) (length b) (sym la ∙ lb)) (omega arith)

-- ---- both texts have n bytes, of which those before i are not yet compared; the m before i begin at j

module _
    (a b : List ℕ) (n i : ℕ)
    (same : same_text a b ≡ equal_bytes (reverse (take i a)) (reverse (take i b)))
    (count : pairs_compared a b ≡ n - i + pairs_from (reverse (take i a)) (reverse (take i b)))
    (la : n ≡ length a) (lb : n ≡ length b) (most : i ≤ n) where
  module _ (j m : ℕ) (at : i ≡ j + m) where
    long : length (reverse (part j m a)) ≡ length (reverse (part j m b))
    long = length-reverse (part j m a) ∙ length_part j m a (omega arith) ∙ sym (length-reverse (part j m b) ∙ length_part j m b (omega arith))

    pub next_same : part j m a ≡ part j m b → same_text a b ≡ equal_bytes (reverse (take j a)) (reverse (take j b))
    next_same e =
        same ∙ rw (at, cut a j m, cut b j m)
        (same_append (reverse (part j m a)) (reverse (part j m b)) (reverse (take j a)) (reverse (take j b)) long
        ∙ rw (e, equal_refl (reverse (part j m b))))

    pub next_count : part j m a ≡ part j m b → pairs_compared a b ≡ n - j + pairs_from (reverse (take j a)) (reverse (take j b))
    next_count e =
        let l : length (reverse (part j m b)) ≡ m = length-reverse (part j m b) ∙ length_part j m b (omega arith) in
        let p = same_pairs (reverse (part j m b)) (reverse (take j a)) (reverse (take j b)) in
        count ∙ rw (at, cut a j m, cut b j m, e, p, l) (omega arith)

    other : (part j m a ≡ part j m b → ⊥) → equal_bytes (reverse (part j m a)) (reverse (part j m b)) ≡ false
    other d = equal_false (reverse (part j m a)) (reverse (part j m b)) (λ r. d (unreversed (part j m a) (part j m b) r))

    pub apart : (p : ℕ) → (part j m a ≡ part j m b → ⊥) → p ≡ pairs_from (reverse (part j m a)) (reverse (part j m b))
        → record { same = false; pairs = n - i + p } ≡ compared_of a b
    apart p d e =
        both a b false (n - i + p)
        (same
        ∙ rw (at, cut a j m, cut b j m)
        (same_append (reverse (part j m a)) (reverse (part j m b)) (reverse (take j a)) (reverse (take j b)) long ∙ rw (other d)))
        (count
        ∙ rw (at, cut a j m, cut b j m, e)
        (ap (λ (k : ℕ). n - (j + m) + k)
        (other_pairs (reverse (part j m a)) (reverse (part j m b)) (reverse (take j a)) (reverse (take j b)) long (other d))))

  -- nothing is left
  pub done : i ≤ 0 → record { same = true; pairs = n } ≡ compared_of a b
  unfolding equal_bytes pairs_from
  done h =
      let z : i ≡ 0 = omega arith in
      both a b true n (same ∙ rw z) (count ∙ rw z (omega arith))

-- ---- what `equal` asks: the same text is the same bytes

same_true : (a b : List ℕ) → a ≡ b → same_text a b ≡ true
unfolding same_text
same_true a b e = rw (e, eq-eqb (length b) (length b) refl) (equal_refl (reverse b))

true_same : (a b : List ℕ) → same_text a b ≡ true → a ≡ b
unfolding same_text
true_same a b e = unreversed a b (equal_true (reverse a) (reverse b) (and_both (eqb (length a) (length b)) (equal_bytes (reverse a) (reverse b)) e).1)

pub same_equal : (a b : List ℕ) → same_text a b ≡ equal_bytes a b
same_equal a b = by (equal_bytes a b) refl (same_text a b) refl
  where
    by : (r : Bool) → equal_bytes a b ≡ r → (s : Bool) → same_text a b ≡ s → s ≡ r
    by true e true g = refl
    by false e false g = refl
    by true e false g = absurd (true≢false (sym (same_true a b (equal_true a b e)) ∙ g))
    by false e true g = absurd (false≢true (sym e ∙ rw (true_same a b g) (equal_refl b)))

-- of what `compare` answers
pub equal_is : (a b : List ℕ) (c : D.Compared) → c ≡ compared_of a b → c.same ≡ equal_bytes a b
equal_is a b c e = rw e (same_equal a b)
