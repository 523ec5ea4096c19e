-- A list of calls that opens, starts, ends and drops nothing takes at most as many steps as the bound at its start says: each step that is not
-- refused lowers the bound by one or more, and no other call of the list raises it.
-- Assumes nothing.
use mathlib.Core.Path.{◌≡◌, refl, sym, ◌∙◌}
use mathlib.Core.Bool.{true, false≢true}
use mathlib.Core.List.{List, [], ◌∷◌}
use Prim.Native.Nat.{ℕ, ◌+◌, ◌≤◌, ◌<◌}
use native.Mathlib.Omega.{arith}
use lib.ListN.{length, get_or}
use Rattle.std.specs.Prelude.{Option, Some, None, Result, Ok, Err}
use Rattle.refusals.specs.declared.Refusal.{Refusal}
use Rattle.refusals.specs.declared.Discard.{Discard}
use Rattle.octet_numbers.proofs.Equality.{and_both}
use Rattle.packet_blocks.specs.Block.{block_count}
use Rattle.packet_blocks.proofs.Stepwise.{blocks_most}
use Rattle.table_sessions.specs.Session.{insert_answer, remove_answer}
use Rattle.packet_form.specs.Discards.{form_of}
use Rattle.packet_form.proofs.Forms.{form_sized}
use Rattle.das_answer.specs.declared.Answer.{Answer}
use Rattle.sched_job.specs.declared.Job as B
use Rattle.sched_job.specs.declared.Moved as M
use Rattle.sched_job.specs.Job.{free_job}
use Rattle.sched_job.specs.Moves.{moved, moved_table}
use Rattle.sched_state.specs.declared.Scheduler as D
use Rattle.sched_state.specs.declared.Outcome.TheVariants as O
use Rattle.sched_state.specs.Scheduler.{settings_of, job_at, open_at, with_job, part_of}
use Rattle.sched_state.specs.Refusals.{open_refusal, step_refusal, drop_refusal}
use Rattle.sched_state.specs.Calls.{called, unless_refused, opened_as, stepped_as, moved_of}
use Rattle.sched_state.specs.Calls.{open_called, step_called, drop_called, started_as, start_called, ended_as, end_called}
use Rattle.sched_state.specs.declared.Called as C
use Rattle.sched_state.specs.Runs.{Call, Open, Step, Drop, Start, End, World, call, run}
use Rattle.thm_serial.specs.Serial.{Note, unnoted, noted}
use Rattle.thm_serial.specs.Demand3.{quiet_by, quiet, counts_by, steps_taken}
use Rattle.thm_serial.proofs.JobInvariant.{Holding}
use Rattle.thm_serial.proofs.Moves.{move_right}
use Rattle.thm_serial.proofs.Invariant.{JobTied, Tied}
use Rattle.thm_serial.proofs.Refusals.{step_admitted, handling_admitted}
use Rattle.thm_serial.proofs.CallAgreement.{call_agrees}
use Rattle.thm_serial.proofs.Potential.{potential}
use Rattle.thm_serial.proofs.Decrease.{moved_less, put_less}

-- the bound after a call with the step that it took is no more than the bound before
abbrev Spent : List B.Job → C.Called → Type 0
Spent js c = quiet_by c.outcome ≡ true → potential c.scheduler.jobs + counts_by c.outcome ≤ potential js

module _ (s : D.Scheduler) (t store : List ℕ) (ns : List Note) (h : Tied (record { scheduler = s; table = t; store = store }) ns) where
  -- ---- a step

  few_blocks : (j : B.Job) (p : List ℕ) (clock : ℕ) (q u : List ℕ) → Holding (settings_of s) j p clock q u
      → block_count (j.length + length (settings_of s).secret) ≤ 66
  few_blocks j p clock q u k =
      let z = form_sized p k.good in
      blocks_most (j.length + length (settings_of s).secret) (omega (arith, k.long, z.high, h.made.short))

  by_note : (n : Note) (j : ℕ) (b : List ℕ) → JobTied (settings_of s) (job_at s.jobs j) n (part_of j store) t
      → step_refusal (open_at s.jobs) (length store) j t b ≡ None
      → potential (stepped_as s j (moved_of s j t store) (moved_of s j t store).ending).scheduler.jobs < potential s.jobs
  unfolding open_at moved
  by_note unnoted j b k r = let a = step_admitted (open_at s.jobs) (length store) j t b r in absurd (false≢true (sym k ∙ a.open_is))
  by_note (noted p clock) j b k r =
      let a = step_admitted (open_at s.jobs) (length store) j t b r in
      put_less s j a.open_is (settings_of s) p clock (part_of j store) t b (moved_table (settings_of s) (job_at s.jobs j) (part_of j store) t)
      (moved_of s j t store).job (moved_of s j t store).ending
      (move_right (settings_of s) p clock (part_of j store) t b (handling_admitted (settings_of s) (open_at s.jobs) (length store) j t b h.made a)
      (job_at s.jobs j) k)
      (moved_less (settings_of s) (job_at s.jobs j).stage (job_at s.jobs j) (part_of j store) t
      (few_blocks (job_at s.jobs j) p clock (part_of j store) t k) a.open_is)

  one_step : (j : ℕ) (m : M.Moved) (e : Option Answer) → counts_by (stepped_as s j m e).outcome ≡ 1
  one_step j m None = refl
  one_step j m (Some a) = refl

  by_refusal : (f : Option Refusal) (j : ℕ) (b : List ℕ) → step_refusal (open_at s.jobs) (length store) j t b ≡ f
      → Spent s.jobs (unless_refused s f (stepped_as s j (moved_of s j t store) (moved_of s j t store).ending))
  by_refusal None j b e q =
      omega (arith, by_note (get_or ns j unnoted) j b (h.each j) e, one_step j (moved_of s j t store) (moved_of s j t store).ending)
  by_refusal (Some r) j b e q = omega arith

  step_spent : (j : ℕ) (b : List ℕ) → Spent s.jobs (step_called s j t b store)
  unfolding step_called
  step_spent j b = by_refusal (step_refusal (open_at s.jobs) (length store) j t b) j b refl

-- ---- the others, where they change nothing

module _ (s : D.Scheduler) where
  by_open : (f : Option Refusal) (d : Option Discard) (p : List ℕ) (clock : ℕ) → Spent s.jobs (unless_refused s f (opened_as s p clock d))
  by_open None None p clock q = absurd (false≢true q)
  by_open None (Some d) p clock q = omega arith
  by_open (Some r) d p clock q = omega arith

  by_drop : (f : Option Refusal) (j : ℕ) → Spent s.jobs (unless_refused s f (called (with_job s j free_job) O.Dropped))
  by_drop None j q = absurd (false≢true q)
  by_drop (Some r) j q = omega arith

  by_start : (v : Result ℕ Refusal) → Spent s.jobs (started_as s v)
  by_start (Ok k) q = absurd (false≢true q)
  by_start (Err r) q = omega arith

  by_end : (v : Result (Unit {0}) Refusal) → Spent s.jobs (ended_as s v)
  by_end (Ok x) q = absurd (false≢true q)
  by_end (Err r) q = omega arith

call_spent : (c : Call) (w : World) (ns : List Note) → Tied w ns → quiet_by (call c w).out.outcome ≡ true
    → potential (call c w).world.scheduler.jobs + counts_by (call c w).out.outcome ≤ potential w.scheduler.jobs
unfolding call open_called drop_called start_called end_called
call_spent (Open p clock) w ns h = by_open w.scheduler (open_refusal (open_at w.scheduler.jobs) (length w.store)) (form_of p) p clock
call_spent (Step j b) w ns h = step_spent w.scheduler w.table w.store ns h j b
call_spent (Drop j) w ns h = by_drop w.scheduler (drop_refusal (open_at w.scheduler.jobs) j) j
call_spent (Start x) w ns h = by_start w.scheduler (insert_answer x w.table)
call_spent (End k) w ns h = by_end w.scheduler (remove_answer k w.table)

pub run_spent : (cs : List Call) (w : World) (ns : List Note) → Tied w ns → quiet (run cs w).outs ≡ true
    → potential (run cs w).world.scheduler.jobs + steps_taken (run cs w).outs ≤ potential w.scheduler.jobs
unfolding run quiet steps_taken
run_spent [] w ns h q = omega arith
run_spent (c ∷ cs) w ns h q =
    let a = call_agrees c w ns h in
    let y = and_both (quiet_by (call c w).out.outcome) (quiet (run cs (call c w).world).outs) q in
    omega (arith, call_spent c w ns h y.0, run_spent cs (call c w).world a.notes a.tied y.1)
