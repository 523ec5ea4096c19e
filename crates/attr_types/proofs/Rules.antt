-- The rules as the code reads them off a class: one law for each answer, and the same of the class of a type.
-- Assumes nothing.
use mathlib.Core.Path.{◌≡◌, refl, sym, ap, ◌∙◌}
use mathlib.Core.Bool.{Bool, true, false, cond, not}
use Prim.Native.Nat.{ℕ}
use lib.Dec.{eqb}
use borrow.Author.Tests.{ne_eqb, eqb-true}
use Rattle.attr_types.specs.Types.{supported, misfit_of}
use Rattle.attr_types.specs.Classes.{class_of, says}
use Rattle.attr_types.specs.Classes.{lacking, misfit_by}
use Rattle.attr_types.proofs.Entries.{says_coa, says_disconnect, says_six, says_filled, says_repeats}

-- ---- 401

lack_case : (code k : ℕ) (b : Bool) → eqb code 43 ≡ b → cond b (supported 43 k) (supported 40 k) ≡ supported code k
unfolding supported
lack_case code k true e = rw e
lack_case code k false e = rw e

pub lacks_class : (code k : ℕ) → lacking code (class_of k) ≡ not (supported code k)
unfolding lacking
lacks_class code k = rw (says_coa k, says_disconnect k) (ap not (lack_case code k _ refl))

-- ---- 404, lengths

pub misfit_class : (k size : ℕ) → misfit_by (class_of k) size ≡ misfit_of k size
unfolding misfit_by misfit_of
misfit_class k size = rw (says_six k, says_filled k)

-- ---- what may repeat is of type 33, and supported in every request

pub repeats_33 : (k : ℕ) (b : Bool) → b ≡ says 64 (class_of k) → b ≡ true → k ≡ 33
repeats_33 k b q e = eqb-true k 33 (sym (says_repeats k) ∙ sym q ∙ e)

pub repeats_not : (k : ℕ) (b : Bool) → b ≡ says 64 (class_of k) → b ≡ false → eqb k 33 ≡ false
repeats_not k b q e = sym (says_repeats k) ∙ sym q ∙ e

by_code : (code : ℕ) (b : Bool) → eqb code 43 ≡ b → supported code 33 ≡ true
unfolding supported
by_code code true e = rw e
by_code code false e = rw e

pub supported_33 : (code : ℕ) → supported code 33 ≡ true
supported_33 code = by_code code _ refl

pub fits_33 : (size : ℕ) → (size ≡ 2 → ⊥) → misfit_of 33 size ≡ false
unfolding misfit_of
fits_33 size n = ne_eqb size 2 n
