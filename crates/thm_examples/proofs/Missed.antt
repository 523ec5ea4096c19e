-- An area of types 55, once, and 33, none empty, meets cause 402 and no cause before it: both types are supported and may have their lengths, 55
-- does not stand twice, and neither is Service-Type, tells the gate's identity or names a session. Assumes nothing.
use mathlib.Core.Path.{◌≡◌, refl}
use mathlib.Core.Bool.{Bool, true, false, cond, not, ◌||◌, or-true, true≢false}
use mathlib.Core.List.{List, [], ◌∷◌}
use Prim.Native.Nat.{ℕ, suc, ◌+◌, ◌≤◌}
use native.Mathlib.Omega.{arith}
use borrow.Author.Tests.{eqb-true}
use lib.Dec.{eqb}
use Rattle.attr_walk.specs.declared.Attribute.{Attribute}
use Rattle.std.specs.Prelude.{Some}
use Rattle.attr_walk.specs.Attributes.{attributes, any, found, first_of, count_of, kind_is}
use Rattle.attr_types.specs.Types.{supported, unsupported_in, misfit_of, malformed, among, naming_types, first_repeated, also, none}
use Rattle.rule_causes.specs.declared.cause.Cause.TheVariants.{MissingAttribute}
use Rattle.rule_causes.specs.Causes.{mismatched, missing, invalid, cause_of}
use Rattle.thm_examples.specs.Sizes.{empty_of}
use Rattle.thm_examples.proofs.Alone.{other, none_strange, none-meets}

-- ---- no type but 33 stands twice

-- one of type 55, there or seen before
abbrev Once : (ℕ → Bool) → List Attribute → Type 0
Once seen l = count_of (kind_is 55) l + cond (seen 55) 1 0 ≤ 1

again : (seen : ℕ → Bool) (a : Attribute) (l : List Attribute) (s t z : Bool) → kind_is 55 a ≡ s → kind_is 33 a ≡ t → seen 55 ≡ z
    → found (cond (not (s || t)) (Some a) (first_of other l)) ≡ false
    → cond s (suc (count_of (kind_is 55) l)) (count_of (kind_is 55) l) + cond z 1 0 ≤ 1
    → ((before : ℕ → Bool) → any other l ≡ false → Once before l → found (first_repeated before l) ≡ false)
    → found (first_repeated seen (a ∷ l)) ≡ false
again seen a l true t true i j k h g ih = absurd (omega arith)
again seen a l true t false i j k h g ih =
    let q : a.kind ≡ 55 = eqb-true a.kind 55 i in
    rw (q, k) (ih (also 55 seen) h (omega arith))
again seen a l false true z i j k h g ih =
    let q : a.kind ≡ 33 = eqb-true a.kind 33 j in
    rw q (ih (also 33 seen) h (rw k g))
again seen a l false false z i j k h g ih = absurd (true≢false h)

once_only : (seen : ℕ → Bool) (l : List Attribute) → any other l ≡ false → Once seen l → found (first_repeated seen l) ≡ false
once_only seen [] h g = refl
once_only seen (a ∷ l) h g = again seen a l _ _ _ refl refl refl h g (λ before. once_only before l)

-- ---- the causes

module _ (s : List ℕ) (alone : any other (attributes s) ≡ false) (filled : any (empty_of 33) (attributes s) ≡ false) where
  none_of : (q : Attribute → Bool) → ((a : Attribute) → a.kind ≡ 55 → q a ≡ false)
      → ((a : Attribute) → a.kind ≡ 33 → eqb a.size 2 ≡ false → q a ≡ false) → any q (attributes s) ≡ false
  none_of q f g = none-meets q f g (attributes s) (none_strange (attributes s) alone filled)

  all-supported : (code : ℕ) → any (unsupported_in code s) (attributes s) ≡ false
  unfolding supported
  all-supported code = none_of (unsupported_in code s) (λ a e. rw (e, or-true)) (λ a e h. rw (e, or-true))

  none_misfits : any (malformed s) (attributes s) ≡ false
  unfolding misfit_of
  none_misfits = none_of (malformed s) (λ a e. rw e) (λ a e h. rw (e, h))

  none_differs : (nas_ip : ℕ) (nas_id : List ℕ) → any (mismatched nas_ip nas_id s) (attributes s) ≡ false
  none_differs nas_ip nas_id = none_of (mismatched nas_ip nas_id s) (λ a e. rw e) (λ a e h. rw e)

  -- none of a type that is neither
  pub none_kind : (k : ℕ) → eqb 55 k ≡ false → eqb 33 k ≡ false → any (kind_is k) (attributes s) ≡ false
  none_kind k f g = none_of (kind_is k) (λ a e. rw e f) (λ a e h. rw e g)

  none_names : any (among naming_types) (attributes s) ≡ false
  none_names = none_of (among naming_types) (λ a e. rw e) (λ a e h. rw e)

  pub cause_missing : count_of (kind_is 55) (attributes s) ≡ 1 → (code nas_ip : ℕ) (nas_id : List ℕ)
      → cause_of code nas_ip nas_id s ≡ Some MissingAttribute
  unfolding cause_of invalid missing
  cause_missing once code nas_ip nas_id =
      let single : found (first_repeated none (attributes s)) ≡ false = once_only none (attributes s) alone (omega arith) in
      rw (all-supported code, none_kind 6 refl refl, single, none_misfits, none_differs nas_ip nas_id, none_names)
