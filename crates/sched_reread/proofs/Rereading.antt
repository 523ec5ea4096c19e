-- What the store read again must show: where no cause applies type 80 stands at most once, so the length of the first is that of all.
-- Assumes nothing.
use mathlib.Core.Path.{◌≡◌, refl, sym, ap, ◌∙◌}
use mathlib.Core.Bool.{Bool, true, false, not, ◌&&◌, not-not}
use mathlib.Core.List.{List}
use Prim.Native.Nat.{ℕ}
use native.Mathlib.Omega.{arith}
use borrow.Author.Tests.{eq-eqb, ne_eqb}
use lib.Dec.{eqb, lit<}
use Rattle.attr_walk.specs.declared.Attribute.{Attribute}
use Rattle.std.specs.Prelude.{Option, Some, None, is_none}
use Rattle.refusals.specs.declared.Discard.{Discard}
use Rattle.attr_walk.specs.Attributes.{attributes, any, found, first_of, on_first, kind_is}
use Rattle.attr_walk.proofs.Searches.{only}
use Rattle.attr_survey.specs.declared.counts.Noted.{Noted}
use Rattle.attr_survey.specs.Noted.{noted_at, seen_at}
use Rattle.attr_survey.specs.Survey.{Kept, size_of}
use Rattle.attr_lookup.proofs.Values.{seen_any}
use Rattle.rule_causes.specs.declared.cause.Cause.{Cause}
use Rattle.rule_causes.specs.Causes.{cause_of}
use Rattle.rule_causes.proofs.Passed.{once}
use Rattle.packet_form.specs.Packet.{length_of}
use Rattle.packet_form.specs.Discards.{form_of, Sized}
use Rattle.sched_reread.specs.Reread.{holds, odd_mac}

-- ---- D1 to D3 and Length

module _ (n : ℕ) (q : List ℕ) where
  module _ (formed : form_of q ≡ None) (b : List ℕ) (same : b ≡ q) (m : ℕ) (z : Sized b m) where
    length_is : m ≡ length_of q
    length_is = z.is ∙ rw same

    pub holds-length : m ≡ n → holds n q ≡ true
    unfolding holds
    holds-length h = rw (formed, ← length_is, eq-eqb _ _ h)

    pub holds_other : (m ≡ n → ⊥) → holds n q ≡ false
    unfolding holds
    holds_other h = rw (formed, ← length_is, ne_eqb _ _ h)

  pub holds_not : (d : Discard) → form_of q ≡ Some d → holds n q ≡ false
  unfolding holds
  holds_not d h = rw h

-- ---- type 80 and the causes

module _ (noted : List Noted) where
  pub mac_there : ((noted_at noted 80).number ≡ 0 → ⊥) → eqb (noted_at noted 80).size 18 ≡ not (seen_at noted 80 && not (eqb (noted_at noted 80).size 18))
  mac_there h = rw (ne_eqb _ _ h) (sym (not-not (eqb (noted_at noted 80).size 18)))

  pub mac_missing : (noted_at noted 80).number ≡ 0 → true ≡ not (seen_at noted 80 && not (eqb (noted_at noted 80).size 18))
  mac_missing h = rw (eq-eqb _ _ h)

odd_first : (x : Option Attribute) (z : ℕ) → z ≡ size_of x → (found x && not (eqb z 18)) ≡ on_first (λ a. not (eqb a.size 18)) x
odd_first (Some a) z e = rw e
odd_first None z e = refl

and-false : (a : Bool) → false ≡ (a && false)
and-false true = refl
and-false false = refl

and-true : (a : Bool) → a ≡ (a && true)
and-true true = refl
and-true false = refl

module _ (s nas_id : List ℕ) (code nas_ip : ℕ) (noted : List Noted) (i : Kept s noted) where
  odd_kept : cause_of code nas_ip nas_id s ≡ None → (seen_at noted 80 && not (eqb (noted_at noted 80).size 18)) ≡ any odd_mac (attributes s)
  odd_kept h =
      let ne : ◌≡◌ {A = ℕ} 80 33 → ⊥ = λ e. omega arith in
      ap (λ (b : Bool). b && not (eqb (noted_at noted 80).size 18)) (seen_any s noted i 80 (lit< tt) ne)
      ∙ odd_first (first_of (kind_is 80) (attributes s)) (noted_at noted 80).size (i.types 80 (lit< tt) ne).size
      ∙ sym (only (kind_is 80) (λ a. not (eqb a.size 18)) (attributes s) (once code nas_ip nas_id s h 80 ne))

  module _ (c : Option Cause) (is : c ≡ cause_of code nas_ip nas_id s) where
    pub objected : (w : Cause) → c ≡ Some w → false ≡ (not (any odd_mac (attributes s)) && is_none (cause_of code nas_ip nas_id s))
    objected w h = rw (← is, h) (and-false (not (any odd_mac (attributes s))))

    pub unobjected_by : c ≡ None → (r : Bool) → r ≡ not (seen_at noted 80 && not (eqb (noted_at noted 80).size 18)) → r ≡ (not (any odd_mac (attributes s)) && is_none (cause_of code nas_ip nas_id s))
    unobjected_by h r e = e ∙ ap not (odd_kept (sym is ∙ h)) ∙ rw (← is, h) (and-true (not (any odd_mac (attributes s))))
