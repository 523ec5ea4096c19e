-- Demand 1, as one record: "What cannot be handled is discarded (D1 to D6) or refused (R1 to R13) under document 01's numbers, in its order, and
-- then the session table, the reply buffer and the packet store stay as they were." For each call: which number it gives where one applies
-- (`refused`, `discarded`: the lowest, or first, by the definition named), that it gives a number only then (`refusals`, `discards`), and that what
-- was lent then equals what was handed in. A step is lent the store to read alone. That no call faults or hangs is the prover's own claim for every
-- function of the library.
-- Assumes nothing.
use Rattle.std.specs.Prelude.{true, false, List, [], ◌∷◌, ◌≡◌, ℕ, ℤ, length, Some, None, Err}
use Rattle.octet_numbers.specs.Runs.{member}
use Rattle.table_records.specs.Record.{Session}
use Rattle.table_sessions.specs.Session.{insert_answer, insert_table, remove_answer, remove_table}
use Rattle.nas_settings.specs.Settings.{Settings, bad_secret}
use Rattle.packet_form.specs.Discards.{form_of}
use Rattle.rule_verdict.specs.Discards.{signed_by}
use Rattle.rule_verdict.specs.Verdict.{verdict_of}
use Rattle.rule_verdict.specs.declared.Verdict.TheVariants as J
use Rattle.das_answer.specs.declared.Answer.{Answer}
use Rattle.das_answer.specs.declared.Answer.TheVariants as A
use Rattle.das_handle.specs.Refusals.{refusal_of}
use Rattle.das_handle.specs.Handle.{handle_answer, handle_table, handle_reply}
use Rattle.refusals.specs.declared.Refusal.{Refusal}
use Rattle.refusals.specs.declared.Refusal.TheVariants as R
use Rattle.refusals.specs.declared.Discard.{Discard}
use Rattle.refusals.specs.declared.Discard.TheVariants as E
use Rattle.refusals.specs.Numbers.{refusal_number, discard_number}
use Rattle.dac_check.specs.declared.Unfit.TheVariants as U
use Rattle.dac_write.specs.Writer.{Draft, write_refusal, write_answer, write_output}
use Rattle.dac_check.specs.ReplyCheck.{check_answer}
use Rattle.sched_reread.specs.Reread.{holds_passed}
use Rattle.sched_reread.specs.Check.{store_judged}
use Rattle.sched_job.specs.declared.Job as B
use Rattle.sched_job.specs.declared.Stage as S
use Rattle.sched_job.specs.declared.Stage.TheVariants.{Free, Hash, Check, Match}
use Rattle.sched_job.specs.Job.{free_job}
use Rattle.sched_state.specs.declared.Scheduler as D
use Rattle.sched_state.specs.declared.Outcome.TheVariants.{Refused, Discarded, Done}
use Rattle.sched_state.specs.Scheduler.{settings_of, job_at, open_at, with_job, part_of}
use Rattle.sched_state.specs.Refusals.{make_refusal, open_refusal, step_refusal, drop_refusal}
use Rattle.sched_rows.specs.Layout.{Held, scheduler_in}
use Rattle.sched_rows.specs.Left.{make_left, open_left, step_left, drop_left, start_left, end_left}
use Rattle.sched_state.specs.Calls.{called, open_called, open_store, step_called, step_table, step_reply, drop_called, start_called, end_called}

-- whole requests
pub record Handling (g : Settings) (t b p : List ℕ) (clock : ℕ) : Type 0 where
  -- a refusal comes before any judgement of the packet
  pub refused : (n : Refusal) → refusal_of g t b ≡ Some n → handle_answer g t b p clock ≡ A.Refused n
  pub discarded : refusal_of g t b ≡ None → (d : Discard) → verdict_of g (signed_by g.secret p) p clock ≡ J.Discarded d
      → handle_answer g t b p clock ≡ A.Discarded d
  -- D6 with a usable stamp
  pub found_stale : refusal_of g t b ≡ None → (skew : ℤ) → verdict_of g (signed_by g.secret p) p clock ≡ J.Stale skew
      → handle_answer g t b p clock ≡ A.Stale skew
  pub refusals : (n : Refusal) → handle_answer g t b p clock ≡ A.Refused n
      → (member (refusal_number n) (1 ∷ 2 ∷ 3 ∷ 4 ∷ []) ≡ true) × (refusal_of g t b ≡ Some n)
  pub discards : (d : Discard) → handle_answer g t b p clock ≡ A.Discarded d
      → (member (discard_number d) (1 ∷ 2 ∷ 3 ∷ 4 ∷ 5 ∷ 6 ∷ []) ≡ true) × (verdict_of g (signed_by g.secret p) p clock ≡ J.Discarded d)
  pub stale : (skew : ℤ) → handle_answer g t b p clock ≡ A.Stale skew → verdict_of g (signed_by g.secret p) p clock ≡ J.Stale skew
  pub refused_kept : (n : Refusal) → handle_answer g t b p clock ≡ A.Refused n
      → (handle_table g t b p clock ≡ t) × (handle_reply g t b p clock ≡ b)
  pub discarded_kept : (d : Discard)
      → handle_answer g t b p clock ≡ A.Discarded d → (handle_table g t b p clock ≡ t) × (handle_reply g t b p clock ≡ b)
  pub stale_kept : (skew : ℤ) → handle_answer g t b p clock ≡ A.Stale skew
      → (handle_table g t b p clock ≡ t) × (handle_reply g t b p clock ≡ b)

-- the writer and the reply check
pub record Exchanging (secret out : List ℕ) (d : Draft) (q r : List ℕ) : Type 0 where
  pub write_refused : (n : Refusal) → write_refusal secret out d ≡ Some n → write_answer secret out d ≡ Err n
  pub write_refusals : (n : Refusal) → write_answer secret out d ≡ Err n
      → (member (refusal_number n) (2 ∷ 4 ∷ 12 ∷ 13 ∷ []) ≡ true) × (write_refusal secret out d ≡ Some n) × (write_output secret out d ≡ out)
  pub check_refused : bad_secret secret ≡ true → check_answer secret q r ≡ Err (U.Refused R.SecretLength)
  pub check_refusals : (n : Refusal) → check_answer secret q r ≡ Err (U.Refused n)
      → (n ≡ R.SecretLength) × (refusal_number n ≡ 2) × (bad_secret secret ≡ true)

-- what a step of job j comes to before any session is changed, by the job's part q of the store: in Check its verdict; in Match and Commit D1,
-- where the store read again no longer holds
abbrev pub ComesTo : Settings → B.Job → List ℕ → Answer → S.Stage → Type 0
ComesTo g j q a Free = ⊥
ComesTo g j q a (Hash k) = ⊥
ComesTo g j q a Check = store_judged g j.words j.length j.clock q ≡ Err a
ComesTo g j q a (Match k) = (holds_passed g j.length q ≡ false) × (a ≡ A.Discarded E.Length)

-- the same of job j of a scheduler
abbrev pub Comes : D.Scheduler → ℕ → List ℕ → Answer → Type 0
Comes s j store a = ComesTo (settings_of s) (job_at s.jobs j) (part_of j store) a (job_at s.jobs j).stage

-- the calls on a scheduler
pub record Scheduling (s : D.Scheduler) (t b store : List ℕ) : Type 0 where
  pub make_refusals : (g : Settings) (n : Refusal) → make_refusal g ≡ Some n → member (refusal_number n) (2 ∷ 3 ∷ []) ≡ true
  pub open_refused : (p : List ℕ) (clock : ℕ) (n : Refusal) → open_refusal (open_at s.jobs) (length store) ≡ Some n
      → open_called s p clock store ≡ called s (Refused n)
  pub open_refusals : (p : List ℕ) (clock : ℕ) (n : Refusal) → (open_called s p clock store).outcome ≡ Refused n
      → (member (refusal_number n) (5 ∷ 6 ∷ []) ≡ true) × (open_refusal (open_at s.jobs) (length store) ≡ Some n)
      × ((open_called s p clock store).scheduler ≡ s) × (open_store s p store ≡ store)
  pub open_discarded : (p : List ℕ) (clock : ℕ) → open_refusal (open_at s.jobs) (length store) ≡ None → (d : Discard) → form_of p ≡ Some d
      → open_called s p clock store ≡ called s (Discarded d)
  pub open_discards : (p : List ℕ) (clock : ℕ) (d : Discard) → (open_called s p clock store).outcome ≡ Discarded d
      → (member (discard_number d) (1 ∷ 2 ∷ 3 ∷ []) ≡ true) × (form_of p ≡ Some d)
      × ((open_called s p clock store).scheduler ≡ s) × (open_store s p store ≡ store)
  pub step_refused : (j : ℕ) (n : Refusal) → step_refusal (open_at s.jobs) (length store) j t b ≡ Some n
      → step_called s j t b store ≡ called s (Refused n)
  pub step_refusals : (j : ℕ) (n : Refusal) → (step_called s j t b store).outcome ≡ Refused n
      → (member (refusal_number n) (1 ∷ 4 ∷ 5 ∷ 7 ∷ []) ≡ true) × (step_refusal (open_at s.jobs) (length store) j t b ≡ Some n)
      × ((step_called s j t b store).scheduler ≡ s) × (step_table s j t b store ≡ t) × (step_reply s j t b store ≡ b)
  -- a request in work is not refused later
  pub step_admitted : (j : ℕ) (n : Refusal) → (step_called s j t b store).outcome ≡ Done (A.Refused n) → ⊥
  pub step_discarded : (j : ℕ) (a : Answer) → step_refusal (open_at s.jobs) (length store) j t b ≡ None → Comes s j store a
      → (step_called s j t b store).outcome ≡ Done a
  -- a discard by a step frees its job
  pub step_discards : (j : ℕ) (d : Discard) → (step_called s j t b store).outcome ≡ Done (A.Discarded d)
      → (member (discard_number d) (1 ∷ 4 ∷ 5 ∷ 6 ∷ []) ≡ true) × Comes s j store (A.Discarded d)
      × ((step_called s j t b store).scheduler ≡ with_job s j free_job) × (step_table s j t b store ≡ t) × (step_reply s j t b store ≡ b)
  pub step_stale : (j : ℕ) (skew : ℤ) → (step_called s j t b store).outcome ≡ Done (A.Stale skew)
      → Comes s j store (A.Stale skew)
      × ((step_called s j t b store).scheduler ≡ with_job s j free_job) × (step_table s j t b store ≡ t) × (step_reply s j t b store ≡ b)
  pub drop_refused : (j : ℕ) (n : Refusal) → drop_refusal (open_at s.jobs) j ≡ Some n → drop_called s j ≡ called s (Refused n)
  pub drop_refusals : (j : ℕ) (n : Refusal) → (drop_called s j).outcome ≡ Refused n
      → (n ≡ R.NoSuchJob) × (refusal_number n ≡ 7) × (drop_refusal (open_at s.jobs) j ≡ Some n) × ((drop_called s j).scheduler ≡ s)
  pub start_refused : (x : Session) (n : Refusal) → insert_answer x t ≡ Err n → start_called s x t ≡ called s (Refused n)
  pub start_refusals : (x : Session) (n : Refusal) → (start_called s x t).outcome ≡ Refused n
      → (member (refusal_number n) (1 ∷ 8 ∷ 9 ∷ 10 ∷ []) ≡ true) × (insert_answer x t ≡ Err n)
      × ((start_called s x t).scheduler ≡ s) × (insert_table x t ≡ t)
  pub end_refused : (k : ℕ) (n : Refusal) → remove_answer k t ≡ Err n → end_called s k t ≡ called s (Refused n)
  pub end_refusals : (k : ℕ) (n : Refusal) → (end_called s k t).outcome ≡ Refused n
      → (member (refusal_number n) (1 ∷ 11 ∷ []) ≡ true) × (remove_answer k t ≡ Err n)
      × ((end_called s k t).scheduler ≡ s) × (remove_table k t ≡ t)

-- what C holds of a scheduler stays as it was too, every number of it
pub record Holding (h : Held) (t b store : List ℕ) : Type 0 where
  pub make_kept : (g : Settings) (n : Refusal) → make_refusal g ≡ Some n → make_left g h ≡ h
  pub open_kept : (p : List ℕ) (clock : ℕ) (n : Refusal) → (open_called (scheduler_in h) p clock store).outcome ≡ Refused n
      → open_left h p clock store ≡ h
  pub open_discarded_kept : (p : List ℕ) (clock : ℕ) (d : Discard) → (open_called (scheduler_in h) p clock store).outcome ≡ Discarded d
      → open_left h p clock store ≡ h
  pub step_kept : (j : ℕ) (n : Refusal) → (step_called (scheduler_in h) j t b store).outcome ≡ Refused n → step_left h j t b store ≡ h
  pub drop_kept : (j : ℕ) (n : Refusal) → (drop_called (scheduler_in h) j).outcome ≡ Refused n → drop_left h j ≡ h
  pub start_kept : (x : Session) (n : Refusal) → (start_called (scheduler_in h) x t).outcome ≡ Refused n → start_left h x t ≡ h
  pub end_kept : (k : ℕ) (n : Refusal) → (end_called (scheduler_in h) k t).outcome ≡ Refused n → end_left h k t ≡ h

pub record Demand1 : Type 0 where
  pub handling : (g : Settings) (t b p : List ℕ) (clock : ℕ) → Handling g t b p clock
  pub exchanging : (secret out : List ℕ) (d : Draft) (q r : List ℕ) → Exchanging secret out d q r
  pub scheduling : (s : D.Scheduler) (t b store : List ℕ) → Scheduling s t b store
  pub holding : (h : Held) (t b store : List ℕ) → Holding h t b store
