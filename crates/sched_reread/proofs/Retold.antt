-- The re-reading in its order: D1 to D3 and Length, the stamp, type 80 and the causes. What passes them all stands as Match and Commit ask.
-- Assumes nothing.
use mathlib.Core.Path.{◌≡◌, refl, sym, ◌∙◌}
use mathlib.Core.Bool.{Bool, true, false, not, ◌&&◌, false≢true}
use mathlib.Core.List.{List}
use Prim.Native.Nat.{ℕ}
use Rattle.std.specs.Prelude.{Option, Some, None, is_none}
use Rattle.octet_numbers.proofs.Equality.{and_both}
use Rattle.attr_walk.specs.Attributes.{attributes, any}
use Rattle.rule_stamp.specs.Stamp.{stamp_of}
use Rattle.rule_causes.specs.declared.cause.Cause.{Cause}
use Rattle.rule_causes.specs.Causes.{cause_of}
use Rattle.rule_causes.proofs.Passed.{repeated, misfit}
use Rattle.packet_form.specs.Packet.{code_of, area_of}
use Rattle.nas_settings.specs.Settings.{Settings}
use Rattle.sched_reread.specs.Reread.{holds, odd_mac, holds_passed}
use Rattle.sched_reread.specs.Again.{Stands}

not-true : (b : Bool) → not b ≡ true → b ≡ false
not-true true h = absurd (false≢true h)
not-true false h = refl

none_of : (c : Option Cause) → is_none c ≡ true → c ≡ None
none_of None h = refl
none_of (Some w) h = absurd (false≢true h)

module _ (g : Settings) (n : ℕ) (q : List ℕ) where
  pub gone_form : holds n q ≡ false → holds_passed g n q ≡ false
  unfolding holds_passed
  gone_form h = rw h

  -- p is the packet that was read, s its area
  module _ (held : holds n q ≡ true) (p s : List ℕ) (same : p ≡ q) (area : s ≡ area_of p) (x : Option ℕ) (stamp : x ≡ stamp_of s) where
    stamp_is : stamp_of (area_of q) ≡ x
    stamp_is = sym (stamp ∙ rw (area, same))

    pub gone_stamp : x ≡ None → holds_passed g n q ≡ false
    unfolding holds_passed
    gone_stamp h = rw (held, stamp_is, h)

    module _ (v : ℕ) (usable : x ≡ Some v) (code : ℕ) (coded : code ≡ code_of p) (b : Bool)
        (is : b ≡ (not (any odd_mac (attributes s)) && is_none (cause_of code g.nas_ip g.nas_id s))) where
      tests : (not (any odd_mac (attributes (area_of q))) && is_none (cause_of (code_of q) g.nas_ip g.nas_id (area_of q))) ≡ b
      tests = sym (is ∙ rw (coded, area, same))

      passed_by : holds_passed g n q ≡ b
      unfolding holds_passed
      passed_by = rw (held, stamp_is, usable) tests

      pub gone_objected : b ≡ false → holds_passed g n q ≡ false
      gone_objected h = passed_by ∙ h

      pub shown : b ≡ true → holds_passed g n q ≡ true
      shown h = passed_by ∙ h

      pub stands : b ≡ true → Stands p v
      stands h =
          let two = and_both _ _ (tests ∙ h) in
          let none : cause_of (code_of q) g.nas_ip g.nas_id (area_of q) ≡ None = none_of _ two.1 in
          rw same
          record {
            stamp = stamp_is ∙ usable;
            plain = not-true _ two.0;
            fits = misfit (code_of q) g.nas_ip g.nas_id (area_of q) none;
            once = repeated (code_of q) g.nas_ip g.nas_id (area_of q) none;
          }
