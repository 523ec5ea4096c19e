-- Demand 1 of whole requests: the lowest refusal that applies is given before anything is judged, and where none does, the discard of the verdict.
-- So a refused answer has that number, a discard is the verdict's, and neither writes table or reply buffer.
-- Assumes nothing.
use mathlib.Core.Path.{◌≡◌, refl, ap, subst, ◌∙◌}
use mathlib.Core.Bool.{Bool, true, false, cond}
use mathlib.Core.List.{List, [], ◌∷◌}
use Prim.Native.Nat.{ℕ}
use lib.Dec.{eqb, ltb}
use lib.IntN.{ℤ}
use lib.ListN.{length}
use Rattle.std.specs.Prelude.{Option, Some, None}
use Rattle.refusals.specs.declared.Refusal.{Refusal}
use Rattle.refusals.specs.declared.Refusal.TheVariants as B
use Rattle.refusals.specs.Numbers.{refusal_number}
use Rattle.table_slots.specs.Slot.{slot_count}
use Rattle.rule_causes.specs.declared.cause.Cause.TheVariants.{SessionNotFound}
use Rattle.rule_verdict.specs.declared.Verdict as R
use Rattle.rule_verdict.specs.declared.Verdict.TheVariants as J
use Rattle.packet_form.specs.Packet.{area_of}
use Rattle.nas_settings.specs.Settings.{Settings, bad_secret, bad_nas_id}
use Rattle.rule_verdict.specs.Discards.{signed_by}
use Rattle.rule_verdict.specs.Verdict.{verdict_of}
use Rattle.das_effects.specs.Matching.{match_count}
use Rattle.das_answer.specs.declared.Answer as D
use Rattle.das_answer.specs.declared.Answer.TheVariants as A
use Rattle.das_answer.specs.Commit.{count_answer}
use Rattle.das_answer.specs.Replies.{reply_as}
use Rattle.das_handle.specs.Refusals.{refusal_of}
use Rattle.das_handle.specs.Handle.{answer_of, unless_refused, table_as, handle_answer, handle_table, handle_reply}
use Rattle.thm_demands.specs.Demand1.{Handling}
use Rattle.thm_demands.proofs.Cascades.{OneOf, none_of, one_more}
use Rattle.thm_demands.proofs.DiscardNumbers.{one_of_six}

-- an answer back to what it comes from: a refusal to the refusal r, a discard to its verdict x
abbrev ComesOf : Option Refusal → R.Verdict → D.Answer → Type 0
ComesOf r x (A.Refused n) = r ≡ Some n
ComesOf r x (A.Discarded d) = x ≡ J.Discarded d
ComesOf r x (A.Stale k) = x ≡ J.Stale k
ComesOf r x (A.Nak c k n) = Unit {0}
ComesOf r x (A.Ack m k n) = Unit {0}

back_count : (r : Option Refusal) (x : R.Verdict) (n : ℕ) (k : ℤ) (b : Bool) (i j : ℕ)
    → ComesOf r x (cond b (A.Nak SessionNotFound k i) (A.Ack n k j))
back_count r x n k true i j = tt
back_count r x n k false i j = tt

back : (p t : List ℕ) (r : Option Refusal) (x : R.Verdict) → ComesOf r x (answer_of p t x)
unfolding count_answer
back p t r (J.Discarded d) = refl
back p t r (J.Stale k) = refl
back p t r (J.Nak c k) = tt
back p t r (J.Passed k) = back_count r (J.Passed k) (match_count (area_of p) t) k (eqb (match_count (area_of p) t) 0) _ _

by_refusal : (p t : List ℕ) (r : Option Refusal) (x : R.Verdict) → ComesOf r x (unless_refused r (answer_of p t x))
by_refusal p t None x = back p t None x
by_refusal p t (Some n) x = refl

refusal_one : (g : Settings) (t b : List ℕ) → OneOf refusal_number (1 ∷ 2 ∷ 3 ∷ 4 ∷ []) (refusal_of g t b)
unfolding refusal_of
refusal_one g t b =
    one_more refusal_number (eqb (slot_count t) 0) B.TableLength _ _
    (one_more refusal_number (bad_secret g.secret) B.SecretLength _ _
    (one_more refusal_number (bad_nas_id g.nas_id) B.NasIdentifierLength _ _
    (one_more refusal_number (ltb (length b) 4096) B.OutputRoom _ _ (none_of refusal_number))))

module _ (g : Settings) (t b p : List ℕ) (clock : ℕ) where
  comes_of : (a : D.Answer) → handle_answer g t b p clock ≡ a → ComesOf (refusal_of g t b) (verdict_of g (signed_by g.secret p) p clock) a
  unfolding handle_answer
  comes_of a e =
      let x = verdict_of g (signed_by g.secret p) p clock in
      subst (ComesOf (refusal_of g t b) x) e (by_refusal p t (refusal_of g t b) x)

  kept : (a : D.Answer) → handle_answer g t b p clock ≡ a
      → (handle_table g t b p clock ≡ table_as p t a) × (handle_reply g t b p clock ≡ reply_as g.secret p b a)
  unfolding handle_table handle_reply
  kept a e = (ap (table_as p t) e, ap (reply_as g.secret p b) e)

  pub refused : (n : Refusal) → refusal_of g t b ≡ Some n → handle_answer g t b p clock ≡ A.Refused n
  unfolding handle_answer
  refused n h = rw h

  pub judged : refusal_of g t b ≡ None → handle_answer g t b p clock ≡ answer_of p t (verdict_of g (signed_by g.secret p) p clock)
  unfolding handle_answer
  judged h = rw h

  pub handling : Handling g t b p clock
  handling =
      record {
        refused = refused;
        discarded = λ z d e. judged z ∙ ap (answer_of p t) e;
        found_stale = λ z k e. judged z ∙ ap (answer_of p t) e;
        refusals = λ n e. let r = comes_of (A.Refused n) e in
            ((refusal_one g t b).found n r, r);
        discards = λ d e. (one_of_six d, comes_of (A.Discarded d) e);
        stale = λ k e. comes_of (A.Stale k) e;
        refused_kept = λ n e. kept (A.Refused n) e;
        discarded_kept = λ d e. kept (A.Discarded d) e;
        stale_kept = λ k e. kept (A.Stale k) e;
      }
