-- How a move that finishes a job ends. Where the part of the store, read again, is no longer the request, it is D1; Check gives D4 to D6 by its
-- verdict; Commit gives NAK or ACK, never a discard. Every finished job is given back free, and only a Commit writes the table.
-- Assumes nothing.
use mathlib.Core.Path.{◌≡◌, refl, ap}
use mathlib.Core.Bool.{Bool, true, false, cond}
use mathlib.Core.List.{List, [], ◌∷◌}
use Prim.Native.Nat.{ℕ}
use lib.Dec.{eqb, ltb}
use lib.IntN.{ℤ}
use Rattle.std.specs.Prelude.{Option, Some, None, Result, Ok, Err}
use Rattle.octet_numbers.specs.Runs.{member}
use Rattle.refusals.specs.declared.Discard.TheVariants as I
use Rattle.refusals.specs.Numbers.{discard_number}
use Rattle.rule_stamp.specs.Stamp.{stamp_of}
use Rattle.table_slots.specs.Slot.{slot_count}
use Rattle.table_change.specs.Change.{count_marked}
use Rattle.rule_causes.specs.declared.cause.Cause.TheVariants.{SessionNotFound}
use Rattle.rule_verdict.specs.declared.Verdict as R
use Rattle.rule_verdict.specs.declared.Verdict.TheVariants as J
use Rattle.packet_form.specs.Packet.{area_of}
use Rattle.nas_settings.specs.Settings.{Settings}
use Rattle.rule_verdict.specs.Verdict.{check_verdict}
use Rattle.das_answer.specs.declared.Answer as D
use Rattle.das_answer.specs.declared.Answer.TheVariants as A
use Rattle.das_answer.specs.Commit.{count_answer, commit_answer, commit_table}
use Rattle.packet_words.specs.Words.{words_signed}
use Rattle.das_judge.specs.Judged.{judged_as}
use Rattle.sched_reread.specs.Check.{store_judged}
use Rattle.sched_job.specs.declared.Job as B
use Rattle.sched_job.specs.declared.Stage as S
use Rattle.sched_job.specs.declared.Stage.TheVariants as P
use Rattle.sched_job.specs.declared.Moved as M
use Rattle.sched_job.specs.Job.{free_job}
use Rattle.sched_reread.specs.Reread.{holds, holds_passed}
use Rattle.sched_job.specs.Moves.{going, done, checked_as, check_move, match_job, skew_at, commit_move, slot_move, slot_table}
use Rattle.sched_job.specs.Moves.{moved_at, moved, moved_table_at, moved_table}
use Rattle.thm_demands.specs.Demand1.{ComesTo}
use Rattle.thm_demands.proofs.Cascades.{or_right}
use Rattle.thm_demands.proofs.DiscardNumbers.{Among, check_among}

-- C says what the step comes to; x and u are the job and the table after it, t the table before
abbrev pub QuitBy : (D.Answer → Type 0) → B.Job → List ℕ → List ℕ → D.Answer → Type 0
QuitBy C x t u (A.Refused n) = ⊥
QuitBy C x t u (A.Discarded d) = (member (discard_number d) (1 ∷ 4 ∷ 5 ∷ 6 ∷ []) ≡ true) × C (A.Discarded d) × (x ≡ free_job) × (u ≡ t)
QuitBy C x t u (A.Stale k) = C (A.Stale k) × (x ≡ free_job) × (u ≡ t)
QuitBy C x t u (A.Nak c k n) = Unit {0}
QuitBy C x t u (A.Ack m k n) = Unit {0}

abbrev pub QuitAs : (D.Answer → Type 0) → B.Job → List ℕ → List ℕ → Option D.Answer → Type 0
QuitAs C x t u None = Unit {0}
QuitAs C x t u (Some a) = QuitBy C x t u a

abbrev Quit : (D.Answer → Type 0) → List ℕ → List ℕ → M.Moved → Type 0
Quit C t u m = QuitAs C m.job t u m.ending

-- ---- Check

-- no refusal, and of the discards 1, 4, 5 and 6
abbrev Judges : Result ℤ D.Answer → Type 0
Judges (Err (A.Refused n)) = ⊥
Judges (Err (A.Discarded d)) = member (discard_number d) (1 ∷ 4 ∷ 5 ∷ 6 ∷ []) ≡ true
Judges (Err (A.Stale k)) = Unit {0}
Judges (Err (A.Nak c k n)) = Unit {0}
Judges (Err (A.Ack m k n)) = Unit {0}
Judges (Ok k) = Unit {0}

verdict_judges : (q : List ℕ) (x : R.Verdict) → Among (4 ∷ 5 ∷ 6 ∷ []) x → Judges (judged_as q x)
verdict_judges q (J.Discarded d) h = or_right (eqb (discard_number d) 1) (member (discard_number d) (4 ∷ 5 ∷ 6 ∷ [])) h
verdict_judges q (J.Stale k) h = tt
verdict_judges q (J.Nak c k) h = tt
verdict_judges q (J.Passed k) h = tt

reread_judges : (x : Result ℤ D.Answer) (f : Bool) → Judges x → Judges (cond f x (Err (A.Discarded I.Length)))
reread_judges x true h = h
reread_judges x false h = refl

store_judges : (g : Settings) (words : List ℕ) (n clock : ℕ) (q : List ℕ) → Judges (store_judged g words n clock q)
unfolding store_judged
store_judges g words n clock q =
    let x = check_verdict g (words_signed words q) q clock in
    reread_judges (judged_as q x) (holds n q) (verdict_judges q x (check_among g q clock (words_signed words q)))

judged_quits : (j : B.Job) (t : List ℕ) (y x : Result ℤ D.Answer) → y ≡ x → Judges x
    → Quit (λ (a : D.Answer). y ≡ Err a) t t (checked_as j x)
judged_quits j t y (Err (A.Refused n)) e h = h
judged_quits j t y (Err (A.Discarded d)) e h = (h, e, refl, refl)
judged_quits j t y (Err (A.Stale k)) e h = (e, refl, refl)
judged_quits j t y (Err (A.Nak c k n)) e h = tt
judged_quits j t y (Err (A.Ack m k n)) e h = tt
judged_quits j t y (Ok k) e h = tt

check_quits : (g : Settings) (j : B.Job) (q t : List ℕ) → Quit (λ (a : D.Answer). ComesTo g j q a P.Check) t t (check_move g j q)
unfolding check_move
check_quits g j q t =
    let x = store_judged g j.words j.length j.clock q in
    judged_quits j t x x refl (store_judges g j.words j.length j.clock q)

-- ---- Match and Commit

count_quits : (C : D.Answer → Type 0) (n : ℕ) (k : ℤ) (t u : List ℕ) (i l : ℕ) (f : Bool)
    → Quit C t u (done (cond f (A.Nak SessionNotFound k i) (A.Ack n k l)))
count_quits C n k t u i l true = tt
count_quits C n k t u i l false = tt

commit_quits : (C : D.Answer → Type 0) (j : B.Job) (q t u : List ℕ) → Quit C t u (commit_move j q t)
unfolding commit_move commit_answer count_answer
commit_quits C j q t u =
    let n = count_marked j.marks (slot_count t) t in
    count_quits C n (skew_at (stamp_of (area_of q)) j.clock) t u _ _ (eqb n 0)

slot_by : (g : Settings) (j : B.Job) (k : ℕ) (q t : List ℕ) (f h : Bool) → holds_passed g j.length q ≡ f
    → Quit (λ (a : D.Answer). ComesTo g j q a (P.Match k)) t (cond f (cond h t (commit_table q j.marks t)) t)
    (cond f (cond h (going (match_job j k q t)) (commit_move j q t)) (done (A.Discarded I.Length)))
slot_by g j k q t true true e = tt
slot_by g j k q t true false e = commit_quits (λ x. ComesTo g j q x (P.Match k)) j q t (commit_table q j.marks t)
slot_by g j k q t false h e = (refl, (e, refl), refl, refl)

slot_quits : (g : Settings) (j : B.Job) (k : ℕ) (q t : List ℕ)
    → Quit (λ (a : D.Answer). ComesTo g j q a (P.Match k)) t (slot_table g j k q t) (slot_move g j k q t)
unfolding slot_move slot_table
slot_quits g j k q t = slot_by g j k q t (holds_passed g j.length q) (ltb k (slot_count t)) refl

-- ---- any move

stage_quits : (g : Settings) (x : S.Stage) (j : B.Job) (q t : List ℕ)
    → Quit (λ (a : D.Answer). ComesTo g j q a x) t (moved_table_at g x j q t) (moved_at g x j q t)
stage_quits g P.Free j q t = tt
stage_quits g (P.Hash k) j q t = tt
stage_quits g P.Check j q t = check_quits g j q t
stage_quits g (P.Match k) j q t = slot_quits g j k q t

pub move_quits : (g : Settings) (j : B.Job) (q t : List ℕ)
    → QuitAs (λ (a : D.Answer). ComesTo g j q a j.stage) (moved g j q t).job t (moved_table g j q t) (moved g j q t).ending
unfolding moved moved_table
move_quits g j q t = stage_quits g j.stage j q t

-- ---- and the other way: what a step comes to is how its move ends

stage_ends : (g : Settings) (x : S.Stage) (j : B.Job) (q t : List ℕ) (a : D.Answer) → ComesTo g j q a x → (moved_at g x j q t).ending ≡ Some a
unfolding check_move slot_move
stage_ends g P.Free j q t a h = absurd h
stage_ends g (P.Hash k) j q t a h = absurd h
stage_ends g P.Check j q t a h = ap (λ (y : Result ℤ D.Answer). (checked_as j y).ending) h
stage_ends g (P.Match k) j q t a h = rw (h.0, h.1)

pub move_ends : (g : Settings) (j : B.Job) (q t : List ℕ) (a : D.Answer) → ComesTo g j q a j.stage → (moved g j q t).ending ≡ Some a
unfolding moved
move_ends g j q t a h = stage_ends g j.stage j q t a h
