-- What is held of one type between two attributes: w are all attributes, l those that are left.
-- The count so far and the count of those left give the whole count; the first of all is the one kept or, where none is, the first of those left.
-- Assumes nothing.
use mathlib.Core.Path.{◌≡◌, refl, sym, ap, subst, ◌∙◌}
use mathlib.Core.Bool.{Bool, true, false, cond}
use mathlib.Core.List.{List, [], ◌∷◌}
use Prim.Native.Nat.{ℕ, zero, suc, ◌+◌, ◌≤◌, ◌<◌}
use native.Mathlib.Nat.{zero-add, add-zero}
use native.Mathlib.Omega.{arith}
use lib.Dec.{eqb}
use lib.ListN.{length, get_or, replicate}
use borrow.Author.Tests.{eq-eqb, eqb-true, eqb-false}
use Rattle.attr_walk.specs.declared.Attribute.{Attribute}
use Rattle.attr_walk.specs.Attributes.{first_of, count_of, kind_is}
use Rattle.attr_survey.specs.declared.counts.Noted.{Noted}
use Rattle.attr_survey.specs.Noted.{none_noted, blank, noted_at, noted_more, note_at}
use Rattle.attr_survey.specs.Survey.{up_to_two, end_of, size_of, Counted}
use Rattle.attr_survey.proofs.Notes.{more_first, more_again, note_same, note_other}

pub record Noting (w l : List Attribute) (k : ℕ) (x : Noted) : Type 0 where
  pub number : up_to_two (count_of (kind_is k) w) ≡ up_to_two (x.number + count_of (kind_is k) l)
  pub low : x.number ≤ 2
  pub end : end_of (first_of (kind_is k) w) ≡ cond (eqb x.number 0) (end_of (first_of (kind_is k) l)) x.end
  pub size : size_of (first_of (kind_is k) w) ≡ cond (eqb x.number 0) (size_of (first_of (kind_is k) l)) x.size
  pub no_end : x.number ≡ 0 → x.end ≡ 0
  pub no_size : x.number ≡ 0 → x.size ≡ 0

two : (n : ℕ) → 2 ≤ n → up_to_two n ≡ 2
two zero h = absurd (omega arith)
two (suc zero) h = absurd (omega arith)
two (suc (suc n)) h = refl

low_two : (n : ℕ) → n ≤ 2 → up_to_two n ≡ n
low_two zero h = refl
low_two (suc zero) h = refl
low_two (suc (suc zero)) h = refl
low_two (suc (suc (suc n))) h = absurd (omega arith)

-- ---- a turn that counts

module _ (w l : List Attribute) (a : Attribute) where
  one_more : count_of (kind_is a.kind) (a ∷ l) ≡ suc (count_of (kind_is a.kind) l)
  one_more = rw (eq-eqb a.kind a.kind refl)

  same_case : (x : Noted) → Noting w (a ∷ l) a.kind x → (z : Bool) → eqb x.number 0 ≡ z → Noting w l a.kind (noted_more x (a.at + a.size) a.size)
  same_case x n true e =
      let z : x.number ≡ 0 = eqb-true _ _ e in
      let q = one_more in
      let i : x.number + count_of (kind_is a.kind) (a ∷ l) ≡ 1 + count_of (kind_is a.kind) l = omega arith in
      rw (more_first x (a.at + a.size) a.size z)
      record {
        number = n.number ∙ ap up_to_two i;
        low = omega arith;
        end = n.end ∙ rw (e, eq-eqb a.kind a.kind refl);
        size = n.size ∙ rw (e, eq-eqb a.kind a.kind refl);
        no_end = λ i. absurd (omega arith);
        no_size = λ i. absurd (omega arith);
      }
  same_case x n false e =
      let z : x.number ≡ 0 → ⊥ = eqb-false _ _ e in
      let q = one_more in
      let i : 2 ≤ x.number + count_of (kind_is a.kind) (a ∷ l) = omega arith in
      let j : 2 ≤ 2 + count_of (kind_is a.kind) l = omega arith in
      rw (more_again x (a.at + a.size) a.size z)
      record {
        number = n.number ∙ two _ i ∙ sym (two _ j);
        low = omega arith;
        end = n.end ∙ rw e;
        size = n.size ∙ rw e;
        no_end = λ i. absurd (omega arith);
        no_size = λ i. absurd (omega arith);
      }

  pub other_case : (k : ℕ) (x : Noted) → Noting w (a ∷ l) k x → eqb a.kind k ≡ false → Noting w l k x
  other_case k x n e =
      record { number = n.number ∙ rw e; low = n.low; end = n.end ∙ rw e; size = n.size ∙ rw e; no_end = n.no_end; no_size = n.no_size }

  module _ (noted : List Noted) (h : a.kind < length noted) where
    turn_case : (k : ℕ) → Noting w (a ∷ l) k (noted_at noted k) → (b : Bool) → eqb a.kind k ≡ b
        → Noting w l k (noted_at (note_at noted a.kind (a.at + a.size) a.size) k)
    turn_case k n true e =
        let q : a.kind ≡ k = eqb-true _ _ e in
        subst (λ (j : ℕ). Noting w (a ∷ l) j (noted_at noted j) → Noting w l j (noted_at (note_at noted a.kind (a.at + a.size) a.size) j)) q
        (λ m. rw (note_same noted a.kind (a.at + a.size) a.size h) (same_case (noted_at noted a.kind) m _ refl)) n
    turn_case k n false e =
        rw (note_other noted a.kind (a.at + a.size) a.size k (λ q. eqb-false _ _ e (sym q))) (other_case k (noted_at noted k) n e)

    pub noted_turn : (k : ℕ) → Noting w (a ∷ l) k (noted_at noted k) → Noting w l k (noted_at (note_at noted a.kind (a.at + a.size) a.size) k)
    noted_turn k n = turn_case k n _ refl

-- ---- before the first attribute, and after the last

none_at : (k n : ℕ) → get_or (replicate n none_noted) k none_noted ≡ none_noted
none_at k zero = refl
none_at zero (suc n) = refl
none_at (suc k) (suc n) = none_at k n

pub blank_at : (k : ℕ) → noted_at blank k ≡ none_noted
unfolding blank
blank_at k = none_at k 256

pub noted_start : (w : List Attribute) (k : ℕ) → Noting w w k none_noted
noted_start w k =
    record {
      number = ap up_to_two (sym (zero-add (count_of (kind_is k) w)));
      low = omega arith;
      end = refl;
      size = refl;
      no_end = λ e. refl;
      no_size = λ e. refl;
    }

end_case : (w : List Attribute) (k : ℕ) (x : Noted) → Noting w [] k x → (z : Bool) → eqb x.number 0 ≡ z → Counted w k x
end_case w k x n true e =
    let z : x.number ≡ 0 = eqb-true _ _ e in
    let s : x.number + 0 ≡ x.number = add-zero _ in
    record { number = sym (n.number ∙ ap up_to_two s ∙ low_two _ n.low); end = n.no_end z ∙ sym (n.end ∙ rw e); size = n.no_size z ∙ sym (n.size ∙ rw e) }
end_case w k x n false e =
    let s : x.number + 0 ≡ x.number = add-zero _ in
    record { number = sym (n.number ∙ ap up_to_two s ∙ low_two _ n.low); end = sym (n.end ∙ rw e); size = sym (n.size ∙ rw e) }

pub noted_end : (w : List Attribute) (k : ℕ) (x : Noted) → Noting w [] k x → Counted w k x
noted_end w k x n = end_case w k x n _ refl
