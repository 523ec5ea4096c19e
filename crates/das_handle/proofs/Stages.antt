-- The stages before: a refusal is the lowest number that applies, and D1 to D4 come before the rest of the verdict.
-- Assumes nothing.
use mathlib.Core.Path.{◌≡◌, refl, sym, ap, ◌∙◌}
use mathlib.Core.Bool.{Bool, true, false, cond}
use mathlib.Core.List.{List}
use Prim.Native.Nat.{ℕ, ◌≤◌, ◌<◌}
use native.Mathlib.Omega.{arith}
use borrow.Author.Tests.{eq-eqb, ne_eqb, lt-ltb, le-ltb, ltb-false}
use lib.Dec.{eqb, ltb}
use lib.ListN.{length}
use Rattle.std.specs.Prelude.{Option, Some, None}
use Rattle.std.proofs.lemmas.Option.{none-some}
use Rattle.refusals.specs.declared.Refusal.{Refusal}
use Rattle.refusals.specs.declared.Refusal.TheVariants as R
use Rattle.refusals.specs.declared.Discard.{Discard}
use Rattle.refusals.specs.declared.Discard.TheVariants as B
use Rattle.octet_numbers.specs.Runs.{part, equal_bytes}
use Rattle.packet_auth.specs.Signing.{zeros, authenticator}
use Rattle.table_slots.specs.Slot.{slot_count}
use Rattle.nas_settings.specs.Settings.{Settings, bad_secret, bad_nas_id}
use Rattle.packet_form.specs.Discards.{form_of, Sized}
use Rattle.rule_verdict.specs.Discards.{signed_by}
use Rattle.rule_verdict.specs.Verdict.{check_verdict, verdict_of}
use Rattle.rule_verdict.proofs.Verdicts.{judge_form, judge_signed, judge_unsigned}
use Rattle.das_answer.specs.declared.Answer as D
use Rattle.das_answer.specs.declared.Answer.TheVariants as A
use Rattle.das_answer.specs.Replies.{reply_as}
use Rattle.das_handle.specs.Refusals.{refusal_of}
use Rattle.das_handle.specs.Handle.{answer_of, table_as, handle_answer, handle_table, handle_reply}

-- ---- R1 to R4

module _ (g : Settings) (t b : List ℕ) (n : ℕ) (slots : n ≡ slot_count t) where
  pub refused_table : n ≡ 0 → Some R.TableLength ≡ refusal_of g t b
  unfolding refusal_of
  refused_table h = rw (← slots, eq-eqb _ _ h)

  module _ (some : n ≡ 0 → ⊥) (x : Bool) (secret : x ≡ bad_secret g.secret) where
    pub refused_secret : x ≡ true → Some R.SecretLength ≡ refusal_of g t b
    unfolding refusal_of
    refused_secret h = rw (← slots, ne_eqb _ _ some, ← secret, h)

    module _ (fits : x ≡ false) (y : Bool) (nas_id : y ≡ bad_nas_id g.nas_id) where
      pub refused_name : y ≡ true → Some R.NasIdentifierLength ≡ refusal_of g t b
      unfolding refusal_of
      refused_name h = rw (← slots, ne_eqb _ _ some, ← secret, fits, ← nas_id, h)

      pub refused_reply : y ≡ false → length b < 4096 → Some R.OutputRoom ≡ refusal_of g t b
      unfolding refusal_of
      refused_reply h k = rw (← slots, ne_eqb _ _ some, ← secret, fits, ← nas_id, h, lt-ltb _ _ k)

      pub not_refused : y ≡ false → 4096 ≤ length b → None ≡ refusal_of g t b
      unfolding refusal_of
      not_refused h k = rw (← slots, ne_eqb _ _ some, ← secret, fits, ← nas_id, h, le-ltb _ _ k)

-- a call that is not refused has room for a reply
room_by : (x y z w : Bool) → cond x (Some R.TableLength) (cond y (Some R.SecretLength) (cond z (Some R.NasIdentifierLength) (cond w (Some R.OutputRoom) None))) ≡ None → w ≡ false
room_by true y z w e = absurd (none-some R.TableLength (sym e))
room_by false true z w e = absurd (none-some R.SecretLength (sym e))
room_by false false true w e = absurd (none-some R.NasIdentifierLength (sym e))
room_by false false false true e = absurd (none-some R.OutputRoom (sym e))
room_by false false false false e = refl

pub room : (g : Settings) (t b : List ℕ) (r : Option Refusal) → r ≡ refusal_of g t b → r ≡ None → 4096 ≤ length b
unfolding refusal_of
room g t b r e h = ltb-false _ _ (room_by (eqb (slot_count t) 0) (bad_secret g.secret) (bad_nas_id g.nas_id) (ltb (length b) 4096) (sym e ∙ h))

-- ---- the whole

module _ (g : Settings) (t b p : List ℕ) (clock : ℕ) (x : Option Refusal) (is : x ≡ refusal_of g t b) where
  module _ (r : Refusal) (some : x ≡ Some r) where
    pub handle_refused : A.Refused r ≡ handle_answer g t b p clock
    unfolding handle_answer
    handle_refused = rw (← is, some)

    pub refused_table_kept : t ≡ handle_table g t b p clock
    unfolding handle_table
    refused_table_kept = ap (table_as p t) handle_refused

    pub refused_reply_kept : b ≡ handle_reply g t b p clock
    unfolding handle_reply
    refused_reply_kept = ap (reply_as g.secret p b) handle_refused

  module _ (none : x ≡ None) (a : D.Answer) (judged : a ≡ answer_of p t (verdict_of g (signed_by g.secret p) p clock)) where
    pub handle_judged : a ≡ handle_answer g t b p clock
    unfolding handle_answer
    handle_judged = judged ∙ rw (← is, none)

    pub judged_table : (u : List ℕ) → u ≡ table_as p t a → u ≡ handle_table g t b p clock
    unfolding handle_table
    judged_table u e = e ∙ ap (table_as p t) handle_judged

    pub judged_reply : (u : List ℕ) → u ≡ reply_as g.secret p b a → u ≡ handle_reply g t b p clock
    unfolding handle_reply
    judged_reply u e = e ∙ ap (reply_as g.secret p b) handle_judged

-- ---- D1 to D4: q is the packet that the bytes p begin with

module _ (g : Settings) (p t : List ℕ) (clock : ℕ) where
  pub form_answer : (d : Discard) → form_of p ≡ Some d → A.Discarded d ≡ answer_of p t (verdict_of g (signed_by g.secret p) p clock)
  form_answer d h = ap (answer_of p t) (judge_form g p clock d h (signed_by g.secret p))

  module _ (formed : form_of p ≡ None) (q : List ℕ) (same : q ≡ p) (n : ℕ) (sized : Sized q n) (w : Bool) (compared : w ≡ equal_bytes (part 4 16 q) (authenticator zeros q n g.secret)) where
    says : w ≡ signed_by g.secret p
    unfolding signed_by
    says = compared ∙ rw (sized.is, same)

    pub unsigned_answer : w ≡ false → A.Discarded B.Authenticator ≡ answer_of p t (verdict_of g (signed_by g.secret p) p clock)
    unsigned_answer h = ap (answer_of p t) (judge_unsigned g p clock formed w says h)

    module _ (h : w ≡ true) (r : D.Answer) (e : r ≡ answer_of q t (check_verdict g true q clock)) where
      pub signed-answer : r ≡ answer_of p t (verdict_of g (signed_by g.secret p) p clock)
      signed-answer = e ∙ rw same (ap (answer_of p t) (judge_signed g p clock formed w says h (check_verdict g true p clock) refl))

    pub signed_table : (r : D.Answer) (u : List ℕ) → u ≡ table_as q t r → u ≡ table_as p t r
    signed_table r u e = e ∙ rw same

    pub signed_reply : (r : D.Answer) (b u : List ℕ) → u ≡ reply_as g.secret q b r → u ≡ reply_as g.secret p b r
    signed_reply r b u e = e ∙ rw same
