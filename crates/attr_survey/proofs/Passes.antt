-- The turns of the pass, in the shape of what its loop knows: x is the step that was returned.
-- Assumes nothing.
use mathlib.Core.Path.{◌≡◌, sym, ap, subst, ◌∙◌}
use mathlib.Core.Bool.{Bool, true, false, or-false}
use mathlib.Core.List.{List, [], ◌∷◌}
use Prim.Native.Nat.{ℕ, ◌≤◌, ◌<◌}
use native.Mathlib.Omega.{arith}
use lib.ListN.{length}
use mir.Syntax.{w16}
use mir.Val.{Fits}
use Rattle.attr_walk.specs.declared.Attribute.{Attribute}
use Rattle.attr_walk.specs.declared.Step.{Step}
use Rattle.attr_walk.specs.declared.Step.TheVariants.{Found, End, Bad}
use Rattle.attr_walk.specs.Attributes.{step_at, attributes, attributes_from, tiled, tiled_from}
use Rattle.attr_walk.proofs.Steps.{step_inv, found_placed}
use Rattle.attr_walk.proofs.Walks.{walk_end, walk_bad, walk-found, tiles_end, tiles_bad}
use Rattle.attr_survey.specs.declared.Flags.{Flags}
use Rattle.attr_types.specs.Classes.{class_of, says}
use Rattle.attr_survey.specs.declared.counts.Noted.{Noted}
use Rattle.attr_survey.specs.Noted.{seen_at, note_at}
use Rattle.attr_survey.specs.Survey.{Kept, Typed}
use Rattle.attr_survey.specs.Turns.{joined_by, untiled}
use Rattle.attr_types.proofs.Rules.{repeats_33, repeats_not}
use Rattle.attr_survey.proofs.Held.{Held, ends_types}
use Rattle.attr_survey.proofs.Turning.{turn_33, turn_empty, turn_other}

pub end_fits : (s : List ℕ) (at next : ℕ) (a : Attribute) (x : Step) → x ≡ step_at s at → x ≡ Found a next → length s ≤ 4096 → Fits w16 next
end_fits s at next a x q r l = let p = found_placed s at next a x q r in record { fits = omega arith }

module _ (code : ℕ) (s : List ℕ) (w : List Attribute) (at : ℕ) (noted : List Noted) (f : Flags) (i : Held code w (attributes_from s at) noted f) (x : Step) (q : x ≡ step_at s at) where
  module _ (a : Attribute) (next : ℕ) (r : x ≡ Found a next) where
    here : Held code w (a ∷ attributes_from s next) noted f
    here = subst (λ (l : List Attribute). Held code w l noted f) (walk-found _ _ _ s at a next (sym q ∙ r)) i

    module _ (class : ℕ) (e : class ≡ class_of a.kind) (b : Bool) (t : b ≡ says 64 class) where
      pub held_33 : b ≡ true → (a.size ≡ 2 → ⊥) → Held code w (attributes_from s next) noted f
      held_33 y n = turn_33 code w (attributes_from s next) a noted f here (repeats_33 a.kind b (t ∙ ap (says 64) e) y) n

      pub held_empty : b ≡ true → (g : Flags) → g ≡ joined_by code class a.size false f → Held code w (attributes_from s next) noted g
      held_empty y g d =
          rw (d, e) (turn_empty code w (attributes_from s next) a noted f here (repeats_33 a.kind b (t ∙ ap (says 64) e) y))

      pub held_other : b ≡ false → a.kind < 256 → (again : Bool) → again ≡ seen_at noted a.kind
          → (noted' : List Noted) → noted' ≡ note_at noted a.kind next a.size
          → (g : Flags) → g ≡ joined_by code class a.size again f → Held code w (attributes_from s next) noted' g
      held_other y small again o noted' n g m =
          rw (m, o, e, n ∙ ap (λ (end : ℕ). note_at noted a.kind end a.size) (sym (step_inv s at a next (sym q ∙ r)).ends))
          (turn_other code w (attributes_from s next) a noted f here (repeats_not a.kind b (t ∙ ap (says 64) e) y) small)

module _ (code : ℕ) (s : List ℕ) (at : ℕ) (noted : List Noted) (f : Flags) (i : Held code (attributes_from s 0) (attributes_from s at) noted f) (x : Step) (q : x ≡ step_at s at) where
  module _ (e : attributes_from s at ≡ []) where
    -- nothing is left: what is held is the answer
    whole : Held code (attributes s) [] noted f
    whole = subst (λ (l : List Attribute). Held code (attributes s) l noted f) e i

    kept : Kept s noted
    kept = record { types = λ k h. ends_types code (attributes s) noted f whole k }

    flagged : (t : Bool) → t ≡ tiled s
        → Typed s code (record { tiled = t; unsupported = f.unsupported; service = f.service; repeated = f.repeated; misfit = f.misfit; criterion = f.criterion; change = f.change })
    flagged t y =
        record {
          tiles = y;
          unsupported = sym (whole.unsupported ∙ or-false f.unsupported);
          service = sym (whole.service ∙ or-false f.service);
          repeated = sym (whole.repeated ∙ or-false f.repeated);
          misfit = sym (whole.misfit ∙ or-false f.misfit);
          criterion = sym (whole.criterion ∙ or-false f.criterion);
          change = sym (whole.change ∙ or-false f.change);
        }

  pub kept_end : x ≡ End → Kept s noted
  kept_end r = kept (walk_end _ _ _ s at (sym q ∙ r))

  pub kept_bad : x ≡ Bad → Kept s noted
  kept_bad r = kept (walk_bad _ _ _ s at (sym q ∙ r))

  pub flags_end : tiled_from s 0 ≡ tiled_from s at → x ≡ End → Typed s code f
  flags_end t r = flagged (walk_end _ _ _ s at (sym q ∙ r)) f.tiled (i.tiled ∙ tiles_end s (tiled_from s 0) at x t q r)

  pub flags_bad : tiled_from s 0 ≡ tiled_from s at → x ≡ Bad → (g : Flags) → g ≡ untiled f → Typed s code g
  flags_bad t r g e = rw e (flagged (walk_bad _ _ _ s at (sym q ∙ r)) false (tiles_bad s (tiled_from s 0) at x t q r))
