-- Each cause is answered exactly where its own test holds and no earlier one does: the definition asks the tests one after the other.
-- Assumes nothing.
use mathlib.Core.Path.{◌≡◌, refl, subst}
use mathlib.Core.Bool.{Bool, true, false, cond}
use mathlib.Core.Logic.{◌↔◌}
use mathlib.Core.List.{List}
use Prim.Native.Nat.{ℕ}
use Rattle.std.specs.Prelude.{Option, Some, None}
use Rattle.attr_walk.specs.Attributes.{attributes, any, kind_is}
use Rattle.attr_types.specs.Types.{unsupported_in}
use Rattle.rule_causes.specs.declared.cause.Cause as D
use Rattle.rule_causes.specs.declared.cause.Cause.TheVariants as C
use Rattle.rule_causes.specs.Causes.{mismatched, missing, oversized, invalid, cause_of}

-- the tests that a cause stands for: a 401, b 405, c 404, d 403, e 402, f 506
abbrev pub StandsFor : Option D.Cause → Bool → Bool → Bool → Bool → Bool → Bool → Type 0
StandsFor (Some C.UnsupportedAttribute) a b c d e f = a ≡ true
StandsFor (Some C.UnsupportedService) a b c d e f = (a ≡ false) × (b ≡ true)
StandsFor (Some C.InvalidRequest) a b c d e f = (a ≡ false) × (b ≡ false) × (c ≡ true)
StandsFor (Some C.IdentificationMismatch) a b c d e f = (a ≡ false) × (b ≡ false) × (c ≡ false) × (d ≡ true)
StandsFor (Some C.MissingAttribute) a b c d e f = (a ≡ false) × (b ≡ false) × (c ≡ false) × (d ≡ false) × (e ≡ true)
StandsFor (Some C.ResourcesUnavailable) a b c d e f = (a ≡ false) × (b ≡ false) × (c ≡ false) × (d ≡ false) × (e ≡ false) × (f ≡ true)
StandsFor (Some C.SessionNotFound) a b c d e f = ⊥
StandsFor None a b c d e f = (a ≡ false) × (b ≡ false) × (c ≡ false) × (d ≡ false) × (e ≡ false) × (f ≡ false)

abbrev cascade : Bool → Bool → Bool → Bool → Bool → Bool → Option D.Cause
cascade a b c d e f =
    cond a (Some C.UnsupportedAttribute)
    (cond b (Some C.UnsupportedService)
    (cond c (Some C.InvalidRequest)
    (cond d (Some C.IdentificationMismatch)
    (cond e (Some C.MissingAttribute)
    (cond f (Some C.ResourcesUnavailable) None)))))

holds : (a b c d e f : Bool) → StandsFor (cascade a b c d e f) a b c d e f
holds true b c d e f = refl
holds false true c d e f = (refl, refl)
holds false false true d e f = (refl, refl, refl)
holds false false false true e f = (refl, refl, refl, refl)
holds false false false false true f = (refl, refl, refl, refl, refl)
holds false false false false false true = (refl, refl, refl, refl, refl, refl)
holds false false false false false false = (refl, refl, refl, refl, refl, refl)

alone : (z : Option D.Cause) (a b c d e f : Bool) → StandsFor z a b c d e f → cascade a b c d e f ≡ z
alone (Some C.UnsupportedAttribute) a b c d e f p = rw p
alone (Some C.UnsupportedService) a b c d e f p = rw (p.0, p.1)
alone (Some C.InvalidRequest) a b c d e f p = rw (p.0, p.1, p.2)
alone (Some C.IdentificationMismatch) a b c d e f p = rw (p.0, p.1, p.2, p.3)
alone (Some C.MissingAttribute) a b c d e f p = rw (p.0, p.1, p.2, p.3, p.4)
alone (Some C.ResourcesUnavailable) a b c d e f p = rw (p.0, p.1, p.2, p.3, p.4, p.5)
alone (Some C.SessionNotFound) a b c d e f p = absurd p
alone None a b c d e f p = rw (p.0, p.1, p.2, p.3, p.4, p.5)

both : (z : Option D.Cause) (a b c d e f : Bool) → (cascade a b c d e f ≡ z) ↔ StandsFor z a b c d e f
both z a b c d e f = (λ q. subst (λ (y : Option D.Cause). StandsFor y a b c d e f) q (holds a b c d e f), alone z a b c d e f)

pub exactly : (z : Option D.Cause) (code nas_ip : ℕ) (nas_id s : List ℕ)
    → (cause_of code nas_ip nas_id s ≡ z)
    ↔ StandsFor z (any (unsupported_in code s) (attributes s)) (any (kind_is 6) (attributes s)) (invalid s) (any (mismatched nas_ip nas_id s) (attributes s)) (missing code s) (any oversized (attributes s))
unfolding cause_of
exactly z code nas_ip nas_id s =
    both z (any (unsupported_in code s) (attributes s)) (any (kind_is 6) (attributes s)) (invalid s) (any (mismatched nas_ip nas_id s) (attributes s)) (missing code s) (any oversized (attributes s))
