-- A verdict that is a NAK or a pass comes from a request with a right type 80, if any, and a usable stamp: so its reply fits, and a pass has no cause.
-- Assumes nothing.
use mathlib.Core.Path.{◌≡◌, refl, sym, ap, ◌∙◌}
use mathlib.Core.Bool.{Bool, true, false, cond, false≢true}
use mathlib.Core.List.{List}
use Prim.Native.Nat.{ℕ, ◌≤◌}
use native.Mathlib.Omega.{arith}
use lib.IntN.{ℤ}
use Rattle.attr_walk.specs.Attributes.{attributes, any, found}
use Rattle.packet_auth.specs.Signing.{zeros}
use Rattle.attr_types.specs.Types.{misfitting, first_repeated, none}
use Rattle.rule_stamp.specs.Stamp.{stamp_of, stale, skew_of}
use Rattle.std.specs.Prelude.{Option, Some, None}
use Rattle.refusals.specs.declared.Discard.TheVariants as D
use Rattle.rule_causes.specs.declared.cause.Cause as C
use Rattle.rule_causes.specs.Causes.{cause_of}
use Rattle.rule_causes.proofs.Passed.{repeated, misfit}
use Rattle.rule_verdict.specs.declared.Verdict as R
use Rattle.rule_verdict.specs.declared.Verdict.TheVariants as J
use Rattle.packet_form.specs.Packet.{code_of, area_of}
use Rattle.nas_settings.specs.Settings.{Settings}
use Rattle.packet_form.specs.Discards.{Sized}
use Rattle.packet_mac.specs.Discards.{bad_mac}
use Rattle.rule_verdict.specs.Verdict.{nak_or, fresh_verdict, stamp_verdict, check_verdict}
use Rattle.das_reply_parts.specs.Reply.{reply_length}
use Rattle.das_reply.proofs.Judged.{judged_fits}

-- a verdict that has a reply, or that passed
abbrev pub answered : R.Verdict → Bool
answered (J.Discarded d) = false
answered (J.Stale k) = false
answered (J.Nak c k) = true
answered (J.Passed k) = true

-- what such a verdict rests on
pub record Reached (g : Settings) (p : List ℕ) (clock : ℕ) (x : R.Verdict) : Type 0 where
  pub right : bad_mac zeros g.secret p ≡ false
  pub stamp : ℕ
  pub usable : stamp_of (area_of p) ≡ Some stamp
  pub is : x ≡ fresh_verdict g.nas_ip g.nas_id p (skew_of stamp clock)

module _ (g : Settings) (p : List ℕ) (clock : ℕ) (x : R.Verdict) (yes-answered : answered x ≡ true) where
  by_stale : (b : Bool) (v : ℕ) → x ≡ cond b (J.Stale (skew_of v clock)) (fresh_verdict g.nas_ip g.nas_id p (skew_of v clock)) → x ≡ fresh_verdict g.nas_ip g.nas_id p (skew_of v clock)
  by_stale true v e = absurd (false≢true (sym (ap answered e) ∙ yes-answered))
  by_stale false v e = e

  by_stamp : bad_mac zeros g.secret p ≡ false → (z : Option ℕ) → stamp_of (area_of p) ≡ z → x ≡ stamp_verdict g p clock z → Reached g p clock x
  by_stamp h (Some v) i e = record { right = h; stamp = v; usable = i; is = by_stale (stale v clock) v e }
  by_stamp h None i e = absurd (false≢true (sym (ap answered e) ∙ yes-answered))

  by_mac : (b : Bool) → bad_mac zeros g.secret p ≡ b → x ≡ cond b (J.Discarded D.MessageAuthenticator) (stamp_verdict g p clock (stamp_of (area_of p))) → Reached g p clock x
  by_mac true h e = absurd (false≢true (sym (ap answered e) ∙ yes-answered))
  by_mac false h e = by_stamp h (stamp_of (area_of p)) refl e

  pub reached : x ≡ check_verdict g true p clock → Reached g p clock x
  unfolding check_verdict
  reached e = by_mac (bad_mac zeros g.secret p) refl e

-- a pass has no cause
by_cause : (k skew : ℤ) (c : Option C.Cause) → J.Passed k ≡ nak_or skew c → c ≡ None
by_cause k skew (Some c) e = cc
by_cause k skew None e = refl

passed_cause : (g : Settings) (p : List ℕ) (k skew : ℤ) → J.Passed k ≡ fresh_verdict g.nas_ip g.nas_id p skew → cause_of (code_of p) g.nas_ip g.nas_id (area_of p) ≡ None
unfolding fresh_verdict
passed_cause g p k skew e = by_cause k skew (cause_of (code_of p) g.nas_ip g.nas_id (area_of p)) e

module _ (g : Settings) (p : List ℕ) (clock : ℕ) (x : R.Verdict) (is : x ≡ check_verdict g true p clock) where
  pub fits : (n : ℕ) (c : Option C.Cause) → Sized p n → answered x ≡ true → reply_length p c ≤ n
  fits n c sized h = let r = reached g p clock x h is in judged_fits zeros g.secret p n c r.stamp sized r.right r.usable

  short : (n : ℕ) (c : Option C.Cause) → Sized p n → answered x ≡ true → reply_length p c ≤ 4096
  short n c sized h = omega (arith, sized.high, fits n c sized h)

  pub nak_short : (n : ℕ) (c : C.Cause) (d : Option C.Cause) (k : ℤ) → x ≡ J.Nak c k → Sized p n → reply_length p d ≤ 4096
  nak_short n c d k e sized = short n d sized (ap answered e)

  pub passed_short : (n : ℕ) (c : Option C.Cause) (k : ℤ) → x ≡ J.Passed k → Sized p n → reply_length p c ≤ 4096
  passed_short n c k e sized = short n c sized (ap answered e)

  -- what no cause leaves: lengths that fit, and no type but 33 twice
  pub uncaused : (k : ℤ) → x ≡ J.Passed k → cause_of (code_of p) g.nas_ip g.nas_id (area_of p) ≡ None
  uncaused k e = let r = reached g p clock x (ap answered e) is in passed_cause g p k (skew_of r.stamp clock) (sym e ∙ r.is)

  pub passed_misfit : (k : ℤ) → x ≡ J.Passed k → any misfitting (attributes (area_of p)) ≡ false
  passed_misfit k e = misfit (code_of p) g.nas_ip g.nas_id (area_of p) (uncaused k e)

  pub passed_once : (k : ℤ) → x ≡ J.Passed k → found (first_repeated none (attributes (area_of p))) ≡ false
  passed_once k e = repeated (code_of p) g.nas_ip g.nas_id (area_of p) (uncaused k e)
