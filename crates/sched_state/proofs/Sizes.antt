-- A secret and a name that R2 and R3 do not refuse are as long as a scheduler has room for.
-- Assumes nothing.
use mathlib.Core.Path.{◌≡◌, refl, sym, ◌∙◌}
use mathlib.Core.Bool.{Bool, true, false, ◌||◌, true≢false}
use mathlib.Core.List.{List}
use Prim.Native.Nat.{ℕ, ◌≤◌}
use native.Mathlib.Omega.{arith}
use borrow.Author.Tests.{ltb-false, eqb-false}
use lib.Dec.{eqb, ltb}
use lib.ListN.{length}
use Rattle.nas_settings.specs.Settings.{bad_secret, bad_nas_id}

at_most : (n m : ℕ) (a b : Bool) → eqb n 0 ≡ a → ltb m n ≡ b → (a || b) ≡ false → (1 ≤ n) × (n ≤ m)
at_most n m true b zero over h = absurd (true≢false h)
at_most n m false true zero over h = absurd (true≢false h)
at_most n m false false zero over h = let some : n ≡ 0 → ⊥ = eqb-false n 0 zero in (omega arith, ltb-false m n over)

pub secret_sized : (secret : List ℕ) → bad_secret secret ≡ false → (1 ≤ length secret) × (length secret ≤ 64)
unfolding bad_secret
secret_sized secret h = at_most (length secret) 64 _ _ refl refl h

pub name_sized : (nas_id : List ℕ) → bad_nas_id nas_id ≡ false → (1 ≤ length nas_id) × (length nas_id ≤ 32)
unfolding bad_nas_id
name_sized nas_id h = at_most (length nas_id) 32 _ _ refl refl h

pub secret_fits : (secret : List ℕ) (b : Bool) → b ≡ bad_secret secret → b ≡ false → length secret ≤ 64
secret_fits secret b is h = (secret_sized secret (sym is ∙ h)).1

pub name_fits : (nas_id : List ℕ) (b : Bool) → b ≡ bad_nas_id nas_id → b ≡ false → length nas_id ≤ 32
name_fits nas_id b is h = (name_sized nas_id (sym is ∙ h)).1
