-- The numbers that a verdict can discard with: 1 to 3 by the packet's form, 4 and 5 by its signatures, 6 by its stamp; a verdict with a NAK cause
-- discards nothing.
-- Assumes nothing.
use mathlib.Core.Path.{◌≡◌, refl}
use mathlib.Core.Bool.{Bool, true, false, cond}
use mathlib.Core.List.{List, [], ◌∷◌}
use Prim.Native.Nat.{ℕ}
use lib.IntN.{ℤ}
use Rattle.std.specs.Prelude.{Option, Some, None}
use Rattle.octet_numbers.specs.Runs.{member}
use Rattle.refusals.specs.declared.Discard.{Discard}
use Rattle.refusals.specs.declared.Discard.TheVariants as D
use Rattle.refusals.specs.Numbers.{discard_number}
use Rattle.packet_auth.specs.Signing.{zeros}
use Rattle.rule_stamp.specs.Stamp.{stamp_of, stale, skew_of}
use Rattle.rule_causes.specs.declared.cause.Cause.{Cause}
use Rattle.rule_causes.specs.Causes.{cause_of}
use Rattle.rule_verdict.specs.declared.Verdict as R
use Rattle.rule_verdict.specs.declared.Verdict.TheVariants as J
use Rattle.packet_form.specs.Packet.{code_of, area_of}
use Rattle.nas_settings.specs.Settings.{Settings}
use Rattle.packet_form.specs.Discards.{form_of, bad_length, bad_code, bad_attributes}
use Rattle.packet_mac.specs.Discards.{bad_mac}
use Rattle.rule_verdict.specs.Verdict.{nak_or, fresh_verdict, stamp_verdict, check_verdict}
use Rattle.thm_demands.proofs.Cascades.{OneOf, none_of, one_more}

-- the number of a discard is one of these
abbrev pub Among : List ℕ → R.Verdict → Type 0
Among l (J.Discarded d) = member (discard_number d) l ≡ true
Among l (J.Stale k) = Unit {0}
Among l (J.Nak c k) = Unit {0}
Among l (J.Passed k) = Unit {0}

form_among : (p : List ℕ) → OneOf discard_number (1 ∷ 2 ∷ 3 ∷ []) (form_of p)
unfolding form_of
form_among p =
    one_more discard_number (bad_length p) D.Length _ _
    (one_more discard_number (bad_code p) D.Code _ _
    (one_more discard_number (bad_attributes p) D.Attributes _ _ (none_of discard_number)))

pub form_one : (p : List ℕ) (d : Discard) → form_of p ≡ Some d → member (discard_number d) (1 ∷ 2 ∷ 3 ∷ []) ≡ true
form_one p d e = (form_among p).found d e

by_cause : (l : List ℕ) (k : ℤ) (c : Option Cause) → Among l (nak_or k c)
by_cause l k (Some c) = tt
by_cause l k None = tt

module _ (g : Settings) (p : List ℕ) (clock : ℕ) where
  fresh_among : (l : List ℕ) (k : ℤ) → Among l (fresh_verdict g.nas_ip g.nas_id p k)
  unfolding fresh_verdict
  fresh_among l k = by_cause l k (cause_of (code_of p) g.nas_ip g.nas_id (area_of p))

  by_stale : (v : ℕ) (b : Bool) → Among (4 ∷ 5 ∷ 6 ∷ []) (cond b (J.Stale (skew_of v clock)) (fresh_verdict g.nas_ip g.nas_id p (skew_of v clock)))
  by_stale v true = tt
  by_stale v false = fresh_among (4 ∷ 5 ∷ 6 ∷ []) (skew_of v clock)

  by_stamp : (x : Option ℕ) → Among (4 ∷ 5 ∷ 6 ∷ []) (stamp_verdict g p clock x)
  by_stamp (Some v) = by_stale v (stale v clock)
  by_stamp None = refl

  by_mac : (b : Bool)
      → Among (4 ∷ 5 ∷ 6 ∷ []) (cond b (J.Discarded D.MessageAuthenticator) (stamp_verdict g p clock (stamp_of (area_of p))))
  by_mac true = refl
  by_mac false = by_stamp (stamp_of (area_of p))

  pub check_among : (signed : Bool) → Among (4 ∷ 5 ∷ 6 ∷ []) (check_verdict g signed p clock)
  unfolding check_verdict
  check_among true = by_mac (bad_mac zeros g.secret p)
  check_among false = refl

-- any discard is one of six
pub one_of_six : (d : Discard) → member (discard_number d) (1 ∷ 2 ∷ 3 ∷ 4 ∷ 5 ∷ 6 ∷ []) ≡ true
one_of_six D.Length = refl
one_of_six D.Code = refl
one_of_six D.Attributes = refl
one_of_six D.Authenticator = refl
one_of_six D.MessageAuthenticator = refl
one_of_six D.Timestamp = refl
