-- The first State from what the pass over the attributes kept of type 24: it ends where the pass says and has the length that it says, so it starts at their difference.
-- Assumes nothing.
use mathlib.Core.Path.{◌≡◌, refl, sym, ap, ◌∙◌}
use mathlib.Core.Bool.{Bool, true, false, false≢true}
use mathlib.Core.List.{List, []}
use Prim.Native.Nat.{ℕ, ◌+◌, ◌-◌}
use native.Mathlib.Omega.{arith}
use borrow.Author.Tests.{eqb-true}
use lib.Dec.{lit<}
use Rattle.octet_numbers.proofs.Write.{write_nil}
use Rattle.attr_walk.specs.declared.Attribute.{Attribute}
use Rattle.std.specs.Prelude.{Option, Some, None}
use Rattle.attr_walk.specs.declared.Step.TheVariants.{Found}
use Rattle.attr_walk.specs.Attributes.{step_at, attributes, any, found, first_of, kind_is}
use Rattle.attr_walk.proofs.Stands.{first_stands}
use Rattle.attr_walk.proofs.Searches.{first_passes}
use Rattle.attr_survey.specs.declared.counts.Noted.{Noted}
use Rattle.attr_survey.specs.Noted.{noted_at, seen_at}
use Rattle.attr_survey.specs.Survey.{Kept, end_of, size_of}
use Rattle.attr_lookup.specs.Lookup.{kept_start}
use Rattle.attr_lookup.proofs.Values.{seen_any}
use Rattle.das_reply_parts.specs.Reply.{as_came, if_found, state_part}

-- an attribute that stands where it says, and is the first State
pub record First (s : List ℕ) (a : Attribute) : Type 0 where
  pub stands : step_at s a.at ≡ Found a (a.at + a.size)
  pub is : state_part s ≡ as_came s a

state_of_lem : (s : List ℕ) (z : Option Attribute) (end size : ℕ) → first_of (kind_is 24) (attributes s) ≡ z → found z ≡ true → end ≡ end_of z → size ≡ size_of z
    → First s (record { kind = 24; at = end - size; size = size })
unfolding state_part
state_of_lem s (Some a) end size q h e g =
    let k : a.kind ≡ 24 = eqb-true a.kind 24 (first_passes (kind_is 24) (attributes s) a q) in
    let o : end - size ≡ a.at = omega arith in
    let i : record { kind = 24; at = end - size; size = size } ≡ a = rw (o, g, ← k) in
    rw i (record { stands = first_stands (kind_is 24) s a q; is = ap (if_found s) q })
state_of_lem s None end size q h e g = absurd (false≢true h)

module _ (s : List ℕ) (noted : List Noted) (kept : Kept s noted) (r : Bool) (is : r ≡ seen_at noted 24) where
  seen : any (kind_is 24) (attributes s) ≡ r
  seen = sym (is ∙ seen_any s noted kept 24 (lit< tt) (λ e. omega arith))

  module _ (h : r ≡ true) (at : ℕ) (e : at ≡ kept_start 24 noted) where
    there : First s (record { kind = 24; at = at; size = (noted_at noted 24).size })
    there =
        let known = kept.types 24 (lit< tt) (λ e. omega arith) in
        rw e (state_of_lem s (first_of (kind_is 24) (attributes s)) ((noted_at noted 24).end) ((noted_at noted 24).size) refl (seen ∙ h) known.end known.size)

    pub state-stands : step_at s at ≡ Found (record { kind = 24; at = at; size = (noted_at noted 24).size }) (at + (noted_at noted 24).size)
    state-stands = there.stands

    pub state-some : state_part s ≡ as_came s (record { kind = 24; at = at; size = (noted_at noted 24).size })
    state-some = there.is

  pub state_none : r ≡ false → state_part s ≡ []
  unfolding state_part
  state_none h = go (first_of (kind_is 24) (attributes s)) (seen ∙ h)
    where
      go : (z : Option Attribute) → found z ≡ false → if_found s z ≡ []
      go (Some a) e = absurd (false≢true (sym e))
      go None e = refl

pub ruleset first_state = (state-stands, state-some, state_none, write_nil)
