-- The verdict on a request before any session is looked at: discarded, NAK, or passed (document 01: D1 to D6, then causes 1 to 6).
-- Assumes nothing.
use Rattle.std.specs.Prelude.{Bool, cond, List, ℕ, ℤ, Option, Some, None}
use Rattle.refusals.specs.declared.Discard.{Discard}
use Rattle.refusals.specs.declared.Discard.TheVariants as R
use Rattle.packet_form.specs.Packet.{code_of, area_of}
use Rattle.packet_form.specs.Discards.{form_of}
use Rattle.rule_stamp.specs.Stamp.{stamp_of, stale, skew_of}
use Rattle.rule_causes.specs.declared.cause.Cause as C
use Rattle.rule_causes.specs.Causes.{cause_of}
use Rattle.packet_auth.specs.Signing.{zeros}
use Rattle.packet_mac.specs.Discards.{bad_mac}
use Rattle.nas_settings.specs.Settings.{Settings}
use Rattle.rule_verdict.specs.declared.Verdict as D
use Rattle.rule_verdict.specs.declared.Verdict.TheVariants.{Discarded, Stale, Nak, Passed}

-- a NAK where a cause applies, else the request passed
abbrev pub nak_or : ℤ → Option C.Cause → D.Verdict
nak_or skew (Some c) = Nak c skew
nak_or skew None = Passed skew

-- causes 1 to 6 of a fresh request
unfoldable pub fresh_verdict : ℕ → List ℕ → List ℕ → ℤ → D.Verdict
fresh_verdict nas_ip nas_id p skew = nak_or skew (cause_of (code_of p) nas_ip nas_id (area_of p))

-- D6: no usable stamp; or a stale one, whose skew is told; else the causes
abbrev pub stamp_verdict : Settings → List ℕ → ℕ → Option ℕ → D.Verdict
stamp_verdict g p clock None = Discarded R.Timestamp
stamp_verdict g p clock (Some v) = cond (stale v clock) (Stale (skew_of v clock)) (fresh_verdict g.nas_ip g.nas_id p (skew_of v clock))

-- D4 to D6 and causes 1 to 6 of a request that meets none of D1 to D3; `signed` says that D4 does not apply
unfoldable pub check_verdict : Settings → Bool → List ℕ → ℕ → D.Verdict
check_verdict g signed p clock =
    cond signed
    (cond (bad_mac zeros g.secret p) (Discarded R.MessageAuthenticator)
    (stamp_verdict g p clock (stamp_of (area_of p))))
    (Discarded R.Authenticator)

-- D1 to D3, and after them the rest
abbrev pub form_verdict : Settings → Bool → List ℕ → ℕ → Option Discard → D.Verdict
form_verdict g signed p clock (Some d) = Discarded d
form_verdict g signed p clock None = check_verdict g signed p clock

-- D1 to D6 and causes 1 to 6
unfoldable pub verdict_of : Settings → Bool → List ℕ → ℕ → D.Verdict
verdict_of g signed p clock = form_verdict g signed p clock (form_of p)
