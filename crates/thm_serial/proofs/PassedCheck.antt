-- A request that passed Check is found unaltered when its part of the store is read again, and its skew can be told again. To pass means that type
-- 80 is right, so of length 18 if there is one; that the stamp is usable, and the skew is that of the stamp; and that none of causes 1 to 6
-- applies.
-- Assumes nothing.
use mathlib.Core.Path.{◌≡◌, refl, sym, ◌∙◌}
use mathlib.Core.Bool.{Bool, true, false, not}
use mathlib.Core.List.{List}
use Prim.Native.Nat.{ℕ, ◌≤◌}
use borrow.Author.Tests.{eq-eqb, ltb-false}
use lib.Dec.{eqb}
use lib.IntN.{ℤ}
use Rattle.octet_numbers.proofs.Bools.{neither}
use Rattle.attr_walk.specs.declared.Attribute.{Attribute}
use Rattle.std.specs.Prelude.{Option, Some, None, is_some}
use Rattle.attr_walk.specs.Attributes.{attributes, any, found, first_of, on_first, count_of, kind_is}
use Rattle.attr_walk.proofs.Searches.{only}
use Rattle.attr_survey.specs.Survey.{size_of}
use Rattle.packet_auth.specs.Signing.{zeros}
use Rattle.rule_stamp.specs.Stamp.{stamp_of}
use Rattle.rule_causes.specs.Causes.{cause_of}
use Rattle.rule_verdict.specs.declared.Verdict.TheVariants as J
use Rattle.packet_form.specs.Packet.{code_of, length_of, area_of}
use Rattle.packet_form.specs.Discards.{form_of}
use Rattle.nas_settings.specs.Settings.{Settings}
use Rattle.packet_mac.specs.Discards.{bad_mac}
use Rattle.packet_laws.proofs.SameBytes.{SamePacket}
use Rattle.rule_verdict.specs.Verdict.{fresh_verdict, check_verdict}
use Rattle.das_reply.proofs.Judged.{mac_eighteen}
use Rattle.das_reply.proofs.Fresh.{reached, uncaused}
use Rattle.sched_reread.specs.Reread.{odd_mac, holds, holds_passed}
use Rattle.sched_job.specs.Moves.{skew_at}

-- signed says that D4 does not apply
pub record Passing (g : Settings) (signed : Bool) (p : List ℕ) (clock : ℕ) : Type 0 where
  pub verdict : check_verdict g signed p clock ≡ J.Passed (skew_at (stamp_of (area_of p)) clock)
  pub stamped : is_some (stamp_of (area_of p)) ≡ true
  pub even : any odd_mac (attributes (area_of p)) ≡ false
  pub uncaused_is : cause_of (code_of p) g.nas_ip g.nas_id (area_of p) ≡ None

-- ---- D5

odd_first : (x : Option Attribute) → (found x ≡ true → size_of x ≡ 18) → on_first (λ a. not (eqb a.size 18)) x ≡ false
odd_first (Some a) h = rw (eq-eqb a.size 18 (h refl))
odd_first None h = refl

no_odd : (secret p : List ℕ) → bad_mac zeros secret p ≡ false → any odd_mac (attributes (area_of p)) ≡ false
unfolding bad_mac
no_odd secret p h =
    let once : count_of (kind_is 80) (attributes (area_of p)) ≤ 1 = ltb-false 1 (count_of (kind_is 80) (attributes (area_of p))) (neither _ _ h).0 in
    only (kind_is 80) (λ a. not (eqb a.size 18)) (attributes (area_of p)) once
    ∙ odd_first (first_of (kind_is 80) (attributes (area_of p))) (mac_eighteen zeros secret p h)

-- ---- the pass

module _ (g : Settings) (p : List ℕ) (clock : ℕ) (k : ℤ) where
  signed_true : (b : Bool) → check_verdict g b p clock ≡ J.Passed k → b ≡ true
  unfolding check_verdict
  signed_true true e = refl
  signed_true false e = cc

  pub passing : (signed : Bool) → check_verdict g signed p clock ≡ J.Passed k → Passing g signed p clock
  unfolding fresh_verdict
  passing signed e =
      let s : signed ≡ true = signed_true signed e in
      let e' : check_verdict g true p clock ≡ J.Passed k = rw s at e in
      let r = reached g p clock (J.Passed k) refl (sym e') in
      let c = uncaused g p clock (J.Passed k) (sym e') k refl in
      record {
        verdict = e ∙ r.is ∙ rw (c, r.usable);
        stamped = rw r.usable;
        even = no_odd g.secret p r.right;
        uncaused_is = c;
      }

-- ---- read again

module _ (p q : List ℕ) (s : SamePacket p q) (good : form_of p ≡ None) where
  -- found unaltered before Check
  pub same_holds : holds (length_of p) q ≡ true
  unfolding holds
  same_holds = rw (s.form, good, s.long, eq-eqb (length_of p) (length_of p) refl)

  -- and after it
  pub passing_holds : (g : Settings) (signed : Bool) (clock : ℕ) → Passing g signed p clock → holds_passed g (length_of p) q ≡ true
  unfolding holds_passed
  passing_holds g signed clock h = rw (same_holds, s.area, s.code, h.stamped, h.even, h.uncaused_is)
