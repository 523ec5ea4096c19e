-- The numbers of a step's answer are small: at most 64 sessions are changed, and a reply has at most 4,096 bytes.
-- Assumes nothing.
use mathlib.Core.Bool.{Bool, true, false, cond, false≢true}
use mathlib.Core.List.{List}
use mathlib.Core.Path.{◌≡◌, refl, sym, subst}
use Prim.Native.Nat.{ℕ, ◌≤◌}
use native.Mathlib.Omega.{arith}
use lib.Dec.{eqb, ltb}
use lib.IntN.{ℤ}
use Rattle.std.specs.Prelude.{Option, Some, None, Err}
use Rattle.refusals.specs.declared.Discard.{Discard}
use Rattle.refusals.specs.declared.Discard.TheVariants as Y
use Rattle.nas_settings.specs.Settings.{Settings}
use lib.ListN.{length}
use Rattle.table_slots.specs.Slot.{slot_count}
use Rattle.table_slots.proofs.Count.{counted}
use Rattle.table_slots.proofs.Marked.{count_most}
use Rattle.table_change.specs.Change.{marked, count_marked}
use Rattle.rule_stamp.specs.Stamp.{stamp_of}
use Rattle.rule_causes.specs.declared.cause.Cause as C
use Rattle.rule_causes.specs.declared.cause.Cause.TheVariants.{SessionNotFound}
use Rattle.packet_form.specs.Packet.{length_of, area_of}
use Rattle.packet_form.specs.Discards.{form_of}
use Rattle.packet_form.proofs.Forms.{form_sized}
use Rattle.rule_verdict.specs.declared.Verdict as R
use Rattle.rule_verdict.specs.declared.Verdict.TheVariants as J
use Rattle.rule_verdict.specs.Verdict.{check_verdict}
use Rattle.das_reply_parts.specs.Reply.{reply_length}
use Rattle.das_reply.proofs.Fresh.{answered, fits}
use Rattle.packet_words.specs.Words.{words_signed}
use Rattle.sched_reread.specs.Reread.{holds, holds_passed}
use Rattle.das_answer.specs.declared.Answer as D
use Rattle.das_answer.specs.declared.Answer.TheVariants as A
use Rattle.das_answer.specs.Commit.{count_answer, commit_answer}
use Rattle.das_judge.specs.Judged.{judged_as}
use Rattle.sched_reread.specs.Check.{store_judged}
use Rattle.sched_job.specs.declared.Job as B
use Rattle.sched_job.specs.declared.Stage as S
use Rattle.sched_job.specs.declared.Stage.TheVariants.{Free, Hash, Check, Match}
use Rattle.sched_job.specs.Moves.{going, done, checked_as, check_move, match_job, commit_move, slot_move, moved_at, moved, skew_at}
use Rattle.sched_state.specs.Scheduler.{job_at}
use Rattle.sched_rows.specs.Layout.{jobs_in}
use Rattle.sched_step.specs.Moved.{rows_moved}
use Rattle.sched_step.proofs.Lengths.{holds_form, passed_short}
use Rattle.c_numbers.specs.Numbers.{alone, answer_told, Small}
use Rattle.c_told.specs.Told.{told_by, outcome_of}

-- the numbers that C is told of a step's ending are small
abbrev pub SmallEnd : Option D.Answer → Type 0
SmallEnd e = Small (told_by (outcome_of e) (alone 0))

small_answer : (a : D.Answer) → (answer_told a (alone 0)).changed ≤ 64 → (answer_told a (alone 0)).length ≤ 4096 → SmallEnd (Some a)
unfolding told_by
small_answer a f s = record { few = omega (arith, f); short = omega (arith, s) }

small_going : SmallEnd None
unfolding told_by
small_going = record { few = omega arith; short = omega arith }

small_discarded : (d : Discard) → SmallEnd (Some (A.Discarded d))
unfolding answer_told
small_discarded d = small_answer (A.Discarded d) (omega arith) (omega arith)

-- ---- Check

by_signed : (g : Settings) (q : List ℕ) (clock : ℕ) (b : Bool) → form_of q ≡ None → answered (check_verdict g b q clock) ≡ true → (c : Option C.Cause)
    → reply_length q c ≤ 4096
unfolding check_verdict
by_signed g q clock true z h c = let s = form_sized q z in omega (arith, s.high, fits g q clock (check_verdict g true q clock) refl (length_of q) c s h)
by_signed g q clock false z h c = absurd (false≢true h)

judged_small : (j : B.Job) (q : List ℕ) (x : R.Verdict) → (answered x ≡ true → (c : Option C.Cause) → reply_length q c ≤ 4096)
    → SmallEnd (checked_as j (judged_as q x)).ending
unfolding answer_told
judged_small j q (J.Discarded d) h = small_discarded d
judged_small j q (J.Stale k) h = small_answer (A.Stale k) (omega arith) (omega arith)
judged_small j q (J.Nak c k) h = small_answer (A.Nak c k (reply_length q (Some c))) (omega arith) (h refl (Some c))
judged_small j q (J.Passed k) h = small_going

check_by : (g : Settings) (j : B.Job) (q : List ℕ) (b : Bool) → holds j.length q ≡ b
    → SmallEnd (checked_as j (cond b (judged_as q (check_verdict g (words_signed j.words q) q j.clock)) (Err (A.Discarded Y.Length)))).ending
check_by g j q true e = judged_small j q (check_verdict g (words_signed j.words q) q j.clock) (by_signed g q j.clock (words_signed j.words q) (holds_form j.length q e))
check_by g j q false e = small_discarded Y.Length

check_small : (g : Settings) (j : B.Job) (q : List ℕ) → SmallEnd (check_move g j q).ending
unfolding check_move store_judged
check_small g j q = check_by g j q (holds j.length q) refl

-- ---- Commit

count_small : (q : List ℕ) (n : ℕ) (k : ℤ) (b : Bool) → n ≤ 64 → ((c : Option C.Cause) → reply_length q c ≤ 4096)
    → SmallEnd (Some (cond b (A.Nak SessionNotFound k (reply_length q (Some SessionNotFound))) (A.Ack n k (reply_length q None))))
unfolding answer_told
count_small q n k true f h = small_answer (A.Nak SessionNotFound k (reply_length q (Some SessionNotFound))) (omega arith) (h (Some SessionNotFound))
count_small q n k false f h = small_answer (A.Ack n k (reply_length q None)) f (h None)

few_marked : (marks t : List ℕ) → count_marked marks (slot_count t) t ≤ 64
unfolding count_marked
few_marked marks t = let c = counted t in omega (arith, count_most (marked marks t) (slot_count t))

commit_small : (j : B.Job) (q t : List ℕ) → ((c : Option C.Cause) → reply_length q c ≤ 4096) → SmallEnd (commit_move j q t).ending
unfolding commit_move commit_answer count_answer
commit_small j q t h = count_small q (count_marked j.marks (slot_count t) t) (skew_at (stamp_of (area_of q)) j.clock) (eqb (count_marked j.marks (slot_count t) t) 0) (few_marked j.marks t) h

slot_by : (j : B.Job) (k : ℕ) (q t : List ℕ) (a b : Bool) → (a ≡ true → (c : Option C.Cause) → reply_length q c ≤ 4096)
    → SmallEnd (cond a (cond b (going (match_job j k q t)) (commit_move j q t)) (done (A.Discarded Y.Length))).ending
slot_by j k q t true true h = small_going
slot_by j k q t true false h = commit_small j q t (h refl)
slot_by j k q t false b h = small_discarded Y.Length

slot_small : (g : Settings) (j : B.Job) (k : ℕ) (q t : List ℕ) → SmallEnd (slot_move g j k q t).ending
unfolding slot_move
slot_small g j k q t = slot_by j k q t (holds_passed g j.length q) (ltb k (slot_count t)) (passed_short g j.length q)

-- ---- a step

at_small : (g : Settings) (s : S.Stage) (j : B.Job) (q t : List ℕ) → SmallEnd (moved_at g s j q t).ending
at_small g Free j q t = small_going
at_small g (Hash k) j q t = small_going
at_small g Check j q t = check_small g j q
at_small g (Match k) j q t = slot_small g j k q t

moved_small : (g : Settings) (j : B.Job) (q t : List ℕ) → SmallEnd (moved g j q t).ending
unfolding moved
moved_small g j q t = at_small g j.stage j q t

-- a step's answer, in the words of the rows
pub rows_small : (g : Settings) (ws ks ps ms : List (List ℕ)) (j : ℕ) (q t : List ℕ) (e : Option D.Answer)
    → e ≡ (rows_moved g ws ks ps ms j q t).ending → SmallEnd e
rows_small g ws ks ps ms j q t e is =
    subst (λ (x : Option D.Answer). SmallEnd x) (sym is) (moved_small g (job_at (jobs_in (length g.secret) ws ks ps ms) j) q t)
