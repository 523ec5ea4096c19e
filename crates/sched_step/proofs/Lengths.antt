-- A reply to a request that passed has at most 4,096 bytes: it is never longer than its request.
-- Assumes nothing.
use mathlib.Core.Bool.{true, false, false≢true}
use mathlib.Core.List.{List}
use mathlib.Core.Path.{◌≡◌, refl}
use Prim.Native.Nat.{ℕ, ◌≤◌}
use borrow.Author.Tests.{not-true}
use lib.Dec.{eqb}
use Rattle.std.specs.Prelude.{Option, Some, None, is_some, is_none}
use Rattle.octet_numbers.proofs.Equality.{and_both}
use Rattle.nas_settings.specs.Settings.{Settings}
use Rattle.attr_walk.specs.Attributes.{attributes, any, found}
use Rattle.attr_types.specs.Types.{misfitting, first_repeated, none}
use Rattle.rule_stamp.specs.Stamp.{stamp_of}
use Rattle.rule_causes.specs.declared.cause.Cause.{Cause}
use Rattle.rule_causes.specs.Causes.{cause_of}
use Rattle.rule_causes.proofs.Passed.{repeated, misfit}
use Rattle.packet_form.specs.Packet.{code_of, length_of, area_of}
use Rattle.packet_form.specs.Discards.{form_of}
use Rattle.packet_form.proofs.Forms.{form_sized}
use Rattle.das_reply_parts.specs.Reply.{reply_length}
use Rattle.sched_reread.specs.Reread.{holds, odd_mac, holds_passed}
use Rattle.sched_job.proofs.Committed.{stands_short}

none_of : {A : Type 0} (x : Option A) → is_none x ≡ true → x ≡ None
none_of None h = refl
none_of (Some a) h = absurd (false≢true h)

pub holds_form : (n : ℕ) (q : List ℕ) → holds n q ≡ true → form_of q ≡ None
unfolding holds
holds_form n q h = none_of (form_of q) (and_both (is_none (form_of q)) (eqb (length_of q) n) h).0

module _ (q : List ℕ) (formed : form_of q ≡ None) (plain : any odd_mac (attributes (area_of q)) ≡ false)
    (fits : any misfitting (attributes (area_of q)) ≡ false) (once : found (first_repeated none (attributes (area_of q))) ≡ false) where
  stamped_short : (x : Option ℕ) → stamp_of (area_of q) ≡ x → is_some x ≡ true → (c : Option Cause) → reply_length q c ≤ 4096
  stamped_short (Some v) e u c = stands_short v q (record { stamp = e; plain = plain; fits = fits; once = once }) (length_of q) (form_sized q formed) c
  stamped_short None e u c = absurd (false≢true u)

pub passed_short : (g : Settings) (n : ℕ) (q : List ℕ) → holds_passed g n q ≡ true → (c : Option Cause) → reply_length q c ≤ 4096
unfolding holds_passed
passed_short g n q h c =
    let p = and_both _ _ h in
    let u = and_both _ _ p.1 in
    let w = and_both _ _ u.1 in
    let uncaused : cause_of (code_of q) g.nas_ip g.nas_id (area_of q) ≡ None = none_of _ w.1 in
    stamped_short q (holds_form n q p.0) (not-true _ w.0) (misfit (code_of q) g.nas_ip g.nas_id (area_of q) uncaused)
    (repeated (code_of q) g.nas_ip g.nas_id (area_of q) uncaused) (stamp_of (area_of q)) refl u.0 c
