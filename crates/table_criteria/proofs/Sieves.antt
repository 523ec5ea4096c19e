-- The sieve for a criterion: a slot that meets it holds the value asked for as a part, so the ends of that part are the ends of the value; a text has
-- its length before it, and a live slot begins with the record's mark.
-- Assumes nothing.
use mathlib.Core.Path.{◌≡◌, refl, sym, ap, ◌∙◌}
use mathlib.Core.Bool.{Bool, true, ◌&&◌}
use mathlib.Core.List.{List, [], ◌∷◌}
use Rattle.std.proofs.lemmas.Option.{none-some, same_Some}
use Prim.Native.Nat.{ℕ, ◌+◌, ◌-◌, ◌≤◌, ◌<◌}
use native.Mathlib.Nat.{add-zero}
use native.Mathlib.Omega.{arith}
use borrow.Author.Tests.{eq-eqb}
use lib.Dec.{eqb}
use lib.ListN.{length, get_or, length-take, length-drop}
use Rattle.octet_numbers.specs.Numbers.{be}
use Rattle.octet_numbers.specs.Runs.{part}
use Rattle.octet_numbers.proofs.Equality.{and_both, equal_true}
use Rattle.octet_numbers.proofs.Numbers.{be-part}
use Rattle.octet_numbers.proofs.Part.{length_part}
use Rattle.table_slots.specs.Slot.{live, text}
use Rattle.table_criteria.specs.declared.Criterion.{Criterion}
use Rattle.table_criteria.specs.declared.Field.{Field}
use Rattle.table_criteria.specs.declared.Field.TheVariants.{UserName, NasPort, FramedAddress, CallingStation, SessionId}
use Rattle.std.specs.Prelude.{Option, None, Some}
use Rattle.table_criteria.specs.Meets.{field_bytes, meets, matches, place, listed, all, first_of}

-- ---- the field that is named

number_field : (f : Field) (s : List ℕ) → place f < 18 → field_bytes f s ≡ part (place f) 4 s
unfolding place field_bytes
number_field UserName s h = absurd (omega arith)
number_field NasPort s h = refl
number_field FramedAddress s h = refl
number_field CallingStation s h = absurd (omega arith)
number_field SessionId s h = absurd (omega arith)

text_field_lem : (f : Field) (s : List ℕ) → 18 ≤ place f → field_bytes f s ≡ text (place f) s
unfolding place field_bytes
text_field_lem UserName s h = refl
text_field_lem NasPort s h = absurd (omega arith)
text_field_lem FramedAddress s h = absurd (omega arith)
text_field_lem CallingStation s h = refl
text_field_lem SessionId s h = refl

-- ---- bytes that a value and a slot share

-- n bytes of the area from at on are those of s from p on: so is each number in them, k bytes from their start
shared : (area s : List ℕ) (at p n k : ℕ) → part at n area ≡ part p n s → k + 4 ≤ n → be (at + k) 4 area ≡ be (p + k) 4 s
shared area s at p n k e h = sym (be-part 4 area at n k h) ∙ ap (be k 4) e ∙ be-part 4 s p n k h

-- a text of a whole slot that is no longer than 63 bytes has the length that stands before it
text-length : (s : List ℕ) (i n : ℕ) → length s ≡ 192 → i ≤ 115 → n ≤ 63 → length (text i s) ≡ n → get_or s i 0 ≡ n
unfolding text part
text-length s i n h l m e = let z = simp (length-take, length-drop) at e in omega arith

-- the three tests of a sieve
abbrev passing : ℕ → ℕ → ℕ → ℕ → ℕ → ℕ → List ℕ → Bool
passing place byte back last front first s = eqb (get_or s place 0) byte && (eqb (be back 4 s) last && eqb (be front 4 s) first)

three : (a b c : Bool) → a ≡ true → b ≡ true → c ≡ true → (a && (b && c)) ≡ true
three a b c e g h = rw (e, g, h)

opens : (s : List ℕ) → live s ≡ true → eqb (get_or s 0 0) 0x5A ≡ true
unfolding live
opens s h = (and_both _ _ h).0

module _
    (area : List ℕ) (c : Criterion) (i last first : ℕ)
    (fits : c.value.at + c.value.size ≤ length area) (long : 4 ≤ c.value.size) (short : c.value.size ≤ 63) (is : i ≡ place c.field) (most : i ≤ 115)
    (el : last ≡ be (c.value.at + c.value.size - 4) 4 area) (ef : first ≡ be c.value.at 4 area)
    (s : List ℕ) (whole : length s ≡ 192) where
  value_long : length (part c.value.at c.value.size area) ≡ c.value.size
  value_long = length_part c.value.at c.value.size area fits

  module _ (p : ℕ) (e : part c.value.at c.value.size area ≡ part p c.value.size s) where
    ends_first : eqb (be p 4 s) first ≡ true
    ends_first = eq-eqb (be p 4 s) first (sym (ef ∙ rw (add-zero c.value.at, add-zero p) at (shared area s c.value.at p c.value.size 0 e (omega arith))))

    ends_last : (q : ℕ) → q ≡ p + (c.value.size - 4) → eqb (be q 4 s) last ≡ true
    ends_last q g =
        let z : c.value.at + c.value.size - 4 ≡ c.value.at + (c.value.size - 4) = omega arith in
        eq-eqb (be q 4 s) last (sym (el ∙ rw (z, g) (shared area s c.value.at p c.value.size (c.value.size - 4) e (omega arith))))

  pub number_passes : i < 18 → live s ≡ true → meets area s c ≡ true
      → passing 0 0x5A i last i first s ≡ true
  unfolding meets
  number_passes h l m =
      let g : part c.value.at c.value.size area ≡ part i 4 s = rw is (equal_true _ _ m ∙ number_field c.field s (rw (← is) h)) in
      let n : c.value.size ≡ 4 = sym value_long ∙ ap length g ∙ length_part i 4 s (omega arith) in
      let e : part c.value.at c.value.size area ≡ part i c.value.size s = rw n (rw n at g) in
      three _ _ _ (opens s l) (ends_last i e i (omega arith)) (ends_first i e)

  pub text_passes : 18 ≤ i → meets area s c ≡ true
      → passing i c.value.size (i + 1 + c.value.size - 4) last (i + 1) first s ≡ true
  unfolding meets text
  text_passes h m =
      let g : part c.value.at c.value.size area ≡ text i s = rw is (equal_true _ _ m ∙ text_field_lem c.field s (rw (← is) h)) in
      let n : get_or s i 0 ≡ c.value.size = text-length s i c.value.size whole most short (sym (ap length g) ∙ value_long) in
      let e : part c.value.at c.value.size area ≡ part (i + 1) c.value.size s = g ∙ rw n in
      three _ _ _ (eq-eqb _ _ n) (ends_last (i + 1) e (i + 1 + c.value.size - 4) (omega arith)) (ends_first (i + 1) e)

-- ---- the first of the criteria

pub first_met : (f : Criterion → Bool) (cs : List (Option Criterion)) (c : Criterion) → first_of cs ≡ Some c → all f (listed cs) ≡ true → f c ≡ true
first_met f [] c e h = absurd (none-some c e)
first_met f (None ∷ cs) c e h = first_met f cs c e h
first_met f (Some b ∷ cs) c e h = rw (same_Some b c e) at (and_both (f b) (all f (listed cs)) h).0

pub first_matches : (area : List ℕ) (cs : List (Option Criterion)) (c : Criterion) (s : List ℕ) → first_of cs ≡ Some c → matches area (listed cs) s ≡ true
    → (live s ≡ true) × (meets area s c ≡ true)
unfolding matches
first_matches area cs c s e m =
    let p = and_both (live s) (all (meets area s) (listed cs)) m in
    (p.0, first_met (meets area s) cs c e p.1)
