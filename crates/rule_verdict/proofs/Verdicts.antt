-- The verdict from the tests that the code makes, in document 01's order.
-- Assumes nothing.
use mathlib.Core.Path.{◌≡◌, refl, sym, ◌∙◌}
use mathlib.Core.Bool.{Bool, true, false, not, true≢false, false≢true}
use mathlib.Core.List.{List}
use Prim.Native.Nat.{ℕ}
use lib.IntN.{ℤ}
use Rattle.std.specs.Prelude.{Option, Some, None}
use Rattle.refusals.specs.declared.Discard.{Discard}
use Rattle.refusals.specs.declared.Discard.TheVariants as R
use Rattle.packet_form.specs.Packet.{code_of, area_of}
use Rattle.packet_form.specs.Discards.{form_of}
use Rattle.packet_auth.specs.Signing.{zeros}
use Rattle.rule_stamp.specs.Stamp.{stamp_of, stale, skew_of}
use Rattle.rule_causes.specs.declared.cause.Cause.{Cause}
use Rattle.rule_causes.specs.Causes.{cause_of}
use Rattle.packet_mac.specs.Discards.{bad_mac}
use Rattle.nas_settings.specs.Settings.{Settings}
use Rattle.rule_verdict.specs.declared.Verdict as D
use Rattle.rule_verdict.specs.declared.Verdict.TheVariants.{Discarded, Stale, Nak, Passed}
use Rattle.rule_verdict.specs.Discards.{signed_by}
use Rattle.rule_verdict.specs.Verdict.{fresh_verdict, check_verdict, verdict_of}

unless : (b : Bool) → not b ≡ false → b ≡ true
unless true h = refl
unless false h = absurd (true≢false h)

-- D4
pub check_unsigned : (g : Settings) (p : List ℕ) (clock : ℕ) (signed : Bool) → not signed ≡ true → Discarded R.Authenticator ≡ check_verdict g signed p clock
unfolding check_verdict
check_unsigned g p clock true h = absurd (false≢true h)
check_unsigned g p clock false h = refl

-- D5 and D6 in their order: b is what the test of D5 says, x the stamp; s is the area, code the request's
module _ (g : Settings) (p : List ℕ) (clock : ℕ) (signed : Bool) (yes-signed : not signed ≡ false) (b : Bool) (is : b ≡ bad_mac zeros g.secret p) where
  is_signed : signed ≡ true
  is_signed = unless signed yes-signed

  pub check_mac : b ≡ true → Discarded R.MessageAuthenticator ≡ check_verdict g signed p clock
  unfolding check_verdict
  check_mac h = rw (is_signed, ← is, h)

  module _ (right : b ≡ false) (s : List ℕ) (x : Option ℕ) (area : s ≡ area_of p) (stamp : x ≡ stamp_of s) where
    pub check_unusable : x ≡ None → Discarded R.Timestamp ≡ check_verdict g signed p clock
    unfolding check_verdict
    check_unusable h = rw (is_signed, ← is, right, ← area, ← stamp, h)

    module _ (v : ℕ) (usable : x ≡ Some v) (late : Bool) (lateness : late ≡ stale v clock) (k : ℤ) (skew : k ≡ skew_of v clock) where
      pub check_stale : late ≡ true → Stale k ≡ check_verdict g signed p clock
      unfolding check_verdict
      check_stale h = rw (is_signed, ← is, right, ← area, ← stamp, usable, ← lateness, h, skew)

      module _ (fresh : late ≡ false) (code : ℕ) (coded : code ≡ code_of p) (c : Option Cause) (cause : c ≡ cause_of code g.nas_ip g.nas_id s) where
        pub check_nak : (w : Cause) → c ≡ Some w → Nak w k ≡ check_verdict g signed p clock
        unfolding check_verdict fresh_verdict
        check_nak w h = rw (is_signed, ← is, right, ← area, ← stamp, usable, ← lateness, fresh, ← skew, ← coded, ← area, ← cause, h)

        pub check_passed : c ≡ None → Passed k ≡ check_verdict g signed p clock
        unfolding check_verdict fresh_verdict
        check_passed h = rw (is_signed, ← is, right, ← area, ← stamp, usable, ← lateness, fresh, ← skew, ← coded, ← area, ← cause, h)

-- D1 to D4 in their order
module _ (g : Settings) (p : List ℕ) (clock : ℕ) where
  pub judge_form : (d : Discard) → form_of p ≡ Some d → (signed : Bool) → Discarded d ≡ verdict_of g signed p clock
  unfolding verdict_of
  judge_form d h signed = rw h

  module _ (formed : form_of p ≡ None) (w : Bool) (compared : w ≡ signed_by g.secret p) where
    pub judge_signed : w ≡ true → (r : D.Verdict) → r ≡ check_verdict g true p clock → r ≡ verdict_of g (signed_by g.secret p) p clock
    unfolding verdict_of
    judge_signed h r i = rw (formed, sym compared ∙ h) i

    pub judge_unsigned : w ≡ false → Discarded R.Authenticator ≡ verdict_of g (signed_by g.secret p) p clock
    unfolding verdict_of check_verdict
    judge_unsigned h = rw (formed, sym compared ∙ h)
