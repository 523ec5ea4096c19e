-- Each arm of a judged request is its part of the definition: what ended is the answer, and no ACK, so the table stays; what passed is answered by the commit.
-- Assumes nothing.
use mathlib.Core.Path.{◌≡◌, refl, sym, ap, subst, ◌∙◌}
use mathlib.Core.Bool.{Bool, true, false, true≢false, false≢true}
use mathlib.Core.List.{List}
use Prim.Native.Nat.{ℕ, ◌≤◌}
use lib.IntN.{ℤ}
use lib.ListN.{length}
use Rattle.std.specs.Prelude.{Result, Ok, Err, Some, None}
use Rattle.octet_numbers.proofs.Write.{length-write}
use Rattle.rule_verdict.specs.declared.Verdict as R
use Rattle.rule_verdict.specs.declared.Verdict.TheVariants as J
use Rattle.packet_form.specs.Packet.{area_of}
use Rattle.packet_form.specs.Discards.{Sized}
use Rattle.nas_settings.specs.Settings.{Settings}
use Rattle.rule_verdict.specs.Verdict.{check_verdict}
use Rattle.das_reply_parts.specs.Reply.{reply_of}
use Rattle.das_reply.proofs.Fresh.{passed_short, passed_misfit, passed_once}
use Rattle.das_effects.specs.Matching.{match_count}
use Rattle.das_answer.specs.declared.Answer as D
use Rattle.das_answer.specs.declared.Answer.TheVariants as A
use Rattle.das_answer.specs.Replies.{reply_as}
use Rattle.das_answer.specs.Commit.{count_answer}
use Rattle.das_judge.specs.Judged.{judged_as, reply_judged}
use Rattle.das_handle.specs.Handle.{answer_as, answer_of, table_as}
use Rattle.das_handle.specs.Passed.{Committable}

abbrev passes : Result ℤ D.Answer → Bool
passes (Err a) = false
passes (Ok k) = true

-- an answer that a verdict ends with is no ACK
no_ack : (p t : List ℕ) (v : R.Verdict) (a : D.Answer) → judged_as p v ≡ Err a → t ≡ table_as p t a
no_ack p t (J.Discarded d) a e = ap (λ (x : Result ℤ D.Answer). table_as p t (answer_as p t x)) e
no_ack p t (J.Stale k) a e = ap (λ (x : Result ℤ D.Answer). table_as p t (answer_as p t x)) e
no_ack p t (J.Nak c k) a e = ap (λ (x : Result ℤ D.Answer). table_as p t (answer_as p t x)) e
no_ack p t (J.Passed k) a e = absurd (true≢false (ap passes e))

-- ---- what the commit may count on

only_passed : (p : List ℕ) (v : R.Verdict) (k : ℤ) → judged_as p v ≡ Ok k → (i : ℤ) × (v ≡ J.Passed i)
only_passed p (J.Discarded d) k e = absurd (false≢true (ap passes e))
only_passed p (J.Stale i) k e = absurd (false≢true (ap passes e))
only_passed p (J.Nak c i) k e = absurd (false≢true (ap passes e))
only_passed p (J.Passed i) k e = (i, refl)

-- p is the packet that was judged, q the same in the request
pub passed_commits : (g : Settings) (p q : List ℕ) → q ≡ p → (clock : ℕ) (x : Result ℤ D.Answer) → x ≡ judged_as p (check_verdict g true p clock) → (k : ℤ) → x ≡ Ok k → (n : ℕ) → Sized q n
    → Committable q
passed_commits g p q same clock x is k e n sized =
    let v = only_passed p (check_verdict g true p clock) k (sym is ∙ e) in
    let here : Sized p n = subst (λ (l : List ℕ). Sized l n) same sized in
    rw same
    record {
      fits = passed_misfit g p clock (check_verdict g true p clock) refl v.0 v.1;
      once = passed_once g p clock (check_verdict g true p clock) refl v.0 v.1;
      short = λ c. passed_short g p clock (check_verdict g true p clock) refl n c v.0 v.1 here;
    }

-- the buffer after a judgement is as long as before
judged_long : (secret p b : List ℕ) (x : Result ℤ D.Answer) → length (reply_judged secret p b x) ≡ length b
judged_long secret p b (Err (A.Refused r)) = refl
judged_long secret p b (Err (A.Discarded d)) = refl
judged_long secret p b (Err (A.Stale k)) = refl
judged_long secret p b (Err (A.Nak c k n)) = length-write b 0 (reply_of secret p (Some c))
judged_long secret p b (Err (A.Ack m k n)) = length-write b 0 (reply_of secret p None)
judged_long secret p b (Ok k) = refl

-- ---- from what the judgement x left, to the definition: b is the buffer before it, u after it

module _ (g : Settings) (p t b u : List ℕ) (clock : ℕ) (x : Result ℤ D.Answer) (is : x ≡ judged_as p (check_verdict g true p clock)) (left : u ≡ reply_judged g.secret p b x) where
  -- it ended with an answer
  module _ (a : D.Answer) (e : x ≡ Err a) where
    pub ended_answer : a ≡ answer_of p t (check_verdict g true p clock)
    ended_answer = ap (answer_as p t) (sym e ∙ is)

    pub ended_table : t ≡ table_as p t a
    ended_table = no_ack p t (check_verdict g true p clock) a (sym is ∙ e)

    pub ended_reply : u ≡ reply_as g.secret p b a
    ended_reply = left ∙ rw e

  -- it passed; k' is the skew as the machine holds it
  module _ (k : ℤ) (e : x ≡ Ok k) where
    pub passed_room : 4096 ≤ length b → 4096 ≤ length u
    passed_room h = rw (left, judged_long g.secret p b x) h

    module _ (q : List ℕ) (same : q ≡ p) (k' : ℤ) (i : k' ≡ k) (r : D.Answer) (h : r ≡ count_answer q (match_count (area_of q) t) k') where
      pub passed_answer : r ≡ answer_of p t (check_verdict g true p clock)
      passed_answer = h ∙ rw (same, i) (ap (answer_as p t) (sym e ∙ is))

      pub passed_table : (w : List ℕ) → w ≡ table_as q t r → w ≡ table_as p t r
      passed_table w o = o ∙ rw same

      pub passed_reply : (w : List ℕ) → w ≡ reply_as g.secret q u r → w ≡ reply_as g.secret p b r
      passed_reply w o = o ∙ rw (left, e, same)
