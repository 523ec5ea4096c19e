-- One law for each answer of the code. The cascade over the flags and the tests is the definition's, so each answer is one way through it.
-- Assumes nothing.
use mathlib.Core.Path.{◌≡◌, sym, ap, ◌∙◌}
use mathlib.Core.Bool.{Bool, true, false, cond, not, ◌||◌}
use mathlib.Core.List.{List}
use Prim.Native.Nat.{ℕ, ◌≤◌, ◌<◌}
use lib.Dec.{ltb}
use lib.ListN.{length}
use borrow.Author.Tests.{eq-eqb, ne_eqb, lt-ltb, le-ltb}
use Rattle.std.specs.Prelude.{Option, Some, None}
use Rattle.octet_numbers.specs.Numbers.{be_bytes}
use Rattle.octet_numbers.specs.Runs.{equal_bytes, write}
use Rattle.octet_numbers.proofs.Numbers.{length-be_bytes}
use Rattle.octet_numbers.proofs.Write.{write_whole}
use Rattle.attr_survey.specs.declared.counts.Noted.{Noted}
use Rattle.attr_survey.specs.declared.Flags.{Flags}
use Rattle.attr_survey.specs.Noted.{noted_at, seen_at}
use Rattle.attr_survey.specs.Survey.{Flagged, Kept}
use Rattle.attr_lookup.specs.Lookup.{kept_value}
use Rattle.rule_causes.specs.declared.cause.Cause as D
use Rattle.rule_causes.specs.declared.cause.Cause.TheVariants as C
use Rattle.rule_causes.specs.Causes.{invalid, cause_of}
use Rattle.rule_causes.specs.Later.{later_of, differs_at, missing_by}
use Rattle.rule_causes.proofs.Lookups.{missing_flags, differ, long_any}

-- ---- 403 and 402

module _ (s : List ℕ) (noted : List Noted) (own : List ℕ) (k : ℕ) (a : Bool) (p : a ≡ seen_at noted k) where
  pub differs_none : a ≡ false → false ≡ differs_at s noted k own
  unfolding differs_at
  differs_none h = rw (sym p ∙ h)

  pub differs_there : a ≡ true → (v : List ℕ) → v ≡ kept_value s k noted → (e : Bool) → e ≡ equal_bytes v own → not e ≡ differs_at s noted k own
  unfolding differs_at
  differs_there h v q e t = rw (sym p ∙ h) (ap not t ∙ rw q)

-- our address as four bytes: all of l is written
pub own_address : (s : List ℕ) (noted : List Noted) (l own : List ℕ) (k nas_ip : ℕ) (r : Bool) → length l ≡ 4 → own ≡ write l 0 (be_bytes 4 nas_ip) → r ≡ differs_at s noted k own
    → r ≡ differs_at s noted k (be_bytes 4 nas_ip)
own_address s noted l own k nas_ip r h e q =
    q ∙ ap (differs_at s noted k) (e ∙ write_whole l (be_bytes 4 nas_ip) (length-be_bytes 4 nas_ip ∙ sym h))

module _ (code : ℕ) (f : Flags) where
  pub missing-all : f.criterion ≡ false → true ≡ missing_by code f
  unfolding missing_by
  missing-all h = rw h

  module _ (n : f.criterion ≡ true) where
    pub missing-none : (code ≡ 43 → ⊥) → false ≡ missing_by code f
    unfolding missing_by
    missing-none k = rw (n, ne_eqb _ _ k)

    pub missing_change : code ≡ 43 → not f.change ≡ missing_by code f
    unfolding missing_by
    missing_change k = rw (n, eq-eqb _ _ k)

-- ---- the cascade

module _ (s : List ℕ) (code nas_ip : ℕ) (nas_id : List ℕ) (f : Flags) (i : Flagged s code f) where
  module _ (noted : List Noted) (kept : Kept s noted) (n : f.repeated ≡ false) where
    tests : cond (differs_at s noted 4 (be_bytes 4 nas_ip) || differs_at s noted 32 nas_id) (Some C.IdentificationMismatch)
        (cond (missing_by code f) (Some C.MissingAttribute) (cond (ltb 34 ((noted_at noted 11).size)) (Some C.ResourcesUnavailable) None)) ≡ later_of code nas_ip nas_id s
    unfolding later_of
    tests = rw (differ s code f i noted kept n nas_ip nas_id, missing_flags s code f i, long_any s code f i noted kept n)

    module _ (d : Bool) (pd : d ≡ differs_at s noted 4 (be_bytes 4 nas_ip)) where
      pub later_address : d ≡ true → (Some C.IdentificationMismatch) ≡ later_of code nas_ip nas_id s
      later_address h = rw (sym pd ∙ h) at tests

      module _ (nd : d ≡ false) (e : Bool) (pe : e ≡ differs_at s noted 32 nas_id) where
        pub later_name : e ≡ true → (Some C.IdentificationMismatch) ≡ later_of code nas_ip nas_id s
        later_name h = rw (sym pd ∙ nd, sym pe ∙ h) at tests

        module _ (ne : e ≡ false) (c : Bool) (pc : c ≡ missing_by code f) where
          pub later_402 : c ≡ true → (Some C.MissingAttribute) ≡ later_of code nas_ip nas_id s
          later_402 h = rw (sym pd ∙ nd, sym pe ∙ ne, sym pc ∙ h) at tests

          module _ (nc : c ≡ false) where
            pub later_506 : 34 < (noted_at noted 11).size → (Some C.ResourcesUnavailable) ≡ later_of code nas_ip nas_id s
            later_506 h = rw (sym pd ∙ nd, sym pe ∙ ne, sym pc ∙ nc, lt-ltb _ _ h) at tests

            pub later-none : (noted_at noted 11).size ≤ 34 → None ≡ later_of code nas_ip nas_id s
            later-none h = rw (sym pd ∙ nd, sym pe ∙ ne, sym pc ∙ nc, le-ltb _ _ h) at tests

  whole : cond f.unsupported (Some C.UnsupportedAttribute) (cond f.service (Some C.UnsupportedService) (cond (f.repeated || f.misfit) (Some C.InvalidRequest) (later_of code nas_ip nas_id s)))
      ≡ cause_of code nas_ip nas_id s
  unfolding cause_of later_of invalid
  whole = rw (i.unsupported, i.service, i.repeated, i.misfit)

  pub cause_401 : f.unsupported ≡ true → (Some C.UnsupportedAttribute) ≡ cause_of code nas_ip nas_id s
  cause_401 h = rw h at whole

  module _ (nu : f.unsupported ≡ false) where
    pub cause_405 : f.service ≡ true → (Some C.UnsupportedService) ≡ cause_of code nas_ip nas_id s
    cause_405 h = rw (nu, h) at whole

    module _ (nv : f.service ≡ false) where
      pub cause_twice : f.repeated ≡ true → (Some C.InvalidRequest) ≡ cause_of code nas_ip nas_id s
      cause_twice h = rw (nu, nv, h) at whole

      module _ (nr : f.repeated ≡ false) where
        pub cause_length : f.misfit ≡ true → (Some C.InvalidRequest) ≡ cause_of code nas_ip nas_id s
        cause_length h = rw (nu, nv, nr, h) at whole

        pub cause_later : f.misfit ≡ false → (c : Option D.Cause) → c ≡ later_of code nas_ip nas_id s → c ≡ cause_of code nas_ip nas_id s
        cause_later h c e = e ∙ rw (nu, nv, nr, h) at whole
