-- The flags after an attribute, from what the calls in between answered: each equation is put in its place.
-- Assumes nothing.
use mathlib.Core.Path.{◌≡◌, ap, ◌∙◌}
use mathlib.Core.Bool.{Bool, ◌||◌}
use Prim.Native.Nat.{ℕ}
use Rattle.attr_survey.specs.declared.Flags.{Flags}
use Rattle.attr_types.specs.Classes.{says, lacking, misfit_by}
use Rattle.attr_survey.specs.Turns.{joined_by}

pub flagged_says : (a b r : Bool) (w class : ℕ) → b ≡ says w class → r ≡ (a || b) → r ≡ (a || says w class)
flagged_says a b r w class p q = q ∙ ap (λ (x : Bool). a || x) p

pub joined_flags : (f : Flags) (code class size : ℕ) (again b u v r d m c g : Bool) → b ≡ lacking code class → u ≡ (f.unsupported || b) → v ≡ (f.service || says 128 class)
    → r ≡ (f.repeated || again) → d ≡ misfit_by class size → m ≡ (f.misfit || d) → c ≡ (f.criterion || says 16 class) → g ≡ (f.change || says 32 class)
    → record { tiled = f.tiled; unsupported = u; service = v; repeated = r; misfit = m; criterion = c; change = g } ≡ joined_by code class size again f
joined_flags f code class size again b u v r d m c g p q s t i j x y = rw (q, p, s, t, j, i, x, y)
