-- A packet and its first Length bytes are the same packet where one of the two does not meet D1: each begins with the other's Length bytes. So they
-- meet the same of D1 to D3.
-- Assumes nothing.
use mathlib.Core.Path.{◌≡◌, refl, sym, ◌∙◌}
use mathlib.Core.Bool.{Bool, true, false, true≢false}
use mathlib.Core.List.{List, ◌++◌}
use Prim.Native.Nat.{ℕ, ◌≤◌}
use native.Mathlib.Omega.{arith}
use lib.ListN.{length, take, length-take, length-append}
use lib.Seq.{take-take, take-append-le, length-take-le}
use Rattle.std.specs.Prelude.{None}
use Rattle.octet_numbers.specs.Runs.{part}
use Rattle.packet_form.specs.Packet.{length_of}
use Rattle.packet_form.specs.Discards.{bad_length, form_of, Sized}
use Rattle.packet_form.proofs.Forms.{good_sized, sized_good, form_good}
use Rattle.packet_laws.proofs.SameBytes.{SamePacket, same_sized, same_packet}
use Rattle.thm_corollaries.specs.Padding.{unpadded}

-- q begins with the n bytes of the packet p
module _ (p q : List ℕ) (n : ℕ) (sized : Sized p n) (more : n ≤ length q) (same : part 0 n q ≡ part 0 n p) where
  pub same_unpadded : unpadded q ≡ unpadded p
  unfolding part
  same_unpadded = rw ((same_packet p q n sized more same).long, ← sized.is) same

pub cut : (p x : List ℕ) → bad_length p ≡ false → unpadded (p ++ x) ≡ unpadded p
unfolding part
cut p x good =
    let z = good_sized p (length_of p) good refl in
    let more : length_of p ≤ length (p ++ x) = rw length-append (omega (arith, z.given)) in
    same_unpadded p (p ++ x) (length_of p) z more (take-append-le (length_of p) p x z.given)

module _ (p : List ℕ) where
  -- the packet does not meet D1
  module _ (good : bad_length p ≡ false) where
    sized : Sized p (length_of p)
    sized = good_sized p (length_of p) good refl

    more : length_of p ≤ length (unpadded p)
    more = rw (length-take-le (length_of p) p sized.given) (omega arith)

    first : take (length_of p) (unpadded p) ≡ take (length_of p) p
    first = take-take (length_of p) (length_of p) p (omega arith)

    good_first : bad_length (unpadded p) ≡ false
    good_first = sized_good (unpadded p) (length_of p) (same_sized p (unpadded p) (length_of p) sized more first)

    pub same_good : SamePacket p (unpadded p)
    same_good = same_packet p (unpadded p) (length_of p) sized more first

  -- its first Length bytes do not
  good_back : bad_length (unpadded p) ≡ false → bad_length p ≡ false
  good_back good =
      let m : ℕ = length_of (unpadded p) in
      let z = good_sized (unpadded p) m good refl in
      let l = length-take (length_of p) p in
      let same : take m p ≡ take m (unpadded p) = sym (take-take m (length_of p) p (omega (arith, z.given))) in
      sized_good p m (same_sized (unpadded p) p m z (omega (arith, z.given)) same)

  bad_by : (a b : Bool) → bad_length (unpadded p) ≡ a → bad_length p ≡ b → a ≡ b
  bad_by true true h i = refl
  bad_by true false h i = absurd (true≢false (sym h ∙ good_first i))
  bad_by false true h i = absurd (true≢false (sym i ∙ good_back h))
  bad_by false false h i = refl

  pub bad_same : bad_length (unpadded p) ≡ bad_length p
  bad_same = bad_by (bad_length (unpadded p)) (bad_length p) refl refl

  form_by : (b : Bool) → bad_length p ≡ b → form_of (unpadded p) ≡ form_of p
  unfolding form_of
  form_by true e = rw (bad_same, e)
  form_by false e = (same_good e).form

  pub form_same : form_of (unpadded p) ≡ form_of p
  form_same = form_by (bad_length p) refl

  pub same_formed : form_of p ≡ None → SamePacket p (unpadded p)
  same_formed good = same_good (form_good p good)
