-- What document 01 says of the scheduler ("The desk") beside demand 3, as one record: each of these sentences follows from the definitions of the
-- calls. The first and the last are about lists of calls on a newly made scheduler; the others hold of any scheduler, whatever was written to table
-- and store between the calls.
-- Assumes nothing.
use Rattle.std.specs.Prelude.{true, false, List, ◌≡◌, ℕ, ◌+◌, ◌*◌, ◌≤◌, ◌<◌, get_or, Ok}
use Rattle.refusals.specs.declared.Discard.TheVariants as R
use Rattle.packet_form.specs.Packet.{length_of}
use Rattle.das_answer.specs.declared.Answer.TheVariants as A
use Rattle.sched_state.specs.declared.Scheduler as D
use Rattle.sched_state.specs.declared.Outcome.TheVariants.{Done}
use Rattle.sched_state.specs.Scheduler.{settings_of, job_at, open_at, lowest_free}
use Rattle.sched_job.specs.Job.{free_job, restarted}
use Rattle.table_records.specs.Record.{Session}
use Rattle.table_sessions.specs.Session.{insert_answer, remove_answer}
use Rattle.sched_state.specs.Runs.{Call, Open, Step, Drop, Start, End, World, call, run}
use Rattle.thm_serial.specs.Steps.{acks, replies, awaits}
use Rattle.thm_serial.specs.Demand3.{finished_by, quiet, steps_taken, world, later, New}

-- 66 blocks of the longest request under the longest secret, (4096 + 64 + 8) / 64 + 1, then Check, 64 slots, Commit
abbrev pub lone_steps : ℕ
lone_steps = 132

pub record Laws : Type 0 where
  -- "A lone job needs at most 66 + 1 + 64 + 1 = 132 steps.": cs leaves no job open but j, and ds opens, starts, ends and drops nothing
  pub lone : (s : D.Scheduler) → New s → (cs ds : List Call) (t store : List ℕ) (j : ℕ)
      → ((i : ℕ) → (i ≡ j → ⊥) → open_at (run cs (world s t store)).world.scheduler.jobs i ≡ false)
      → quiet (later s cs ds t store).outs ≡ true → lone_steps ≤ steps_taken (later s cs ds t store).outs
      → open_at (later s cs ds t store).world.scheduler.jobs j ≡ false
  -- "Of the steps, only a Commit that ends in ACK writes the table": one that does not end in ACK leaves it
  pub only_ack : (j : ℕ) (b : List ℕ) (w : World) → acks (call (Step j b) w).out.outcome ≡ false → (call (Step j b) w).world.table ≡ w.table
  -- and so does one of a job that does not await Commit
  pub only_commit : (j : ℕ) (b : List ℕ) (w : World) → awaits (job_at w.scheduler.jobs j).stage w.table ≡ false
      → (call (Step j b) w).world.table ≡ w.table
  -- "only a step that finishes in ACK or NAK writes the reply buffer"
  pub only_replies : (j : ℕ) (b : List ℕ) (w : World) → replies (call (Step j b) w).out.outcome ≡ false → (call (Step j b) w).out.reply ≡ b
  -- "no step writes the packet store"
  pub step_store : (j : ℕ) (b : List ℕ) (w : World) → (call (Step j b) w).world.store ≡ w.store
  -- "and opening writes only the copied bytes": none before the part of the job that it takes
  pub open_before : (p : List ℕ) (clock : ℕ) (w : World) (i : ℕ) → i < lowest_free (open_at w.scheduler.jobs) * 4096
      → get_or (call (Open p clock) w).world.store i 0 ≡ get_or w.store i 0
  -- and none after the packet's Length bytes
  pub open_after : (p : List ℕ) (clock : ℕ) (w : World) (i : ℕ) → lowest_free (open_at w.scheduler.jobs) * 4096 + length_of p ≤ i
      → get_or (call (Open p clock) w).world.store i 0 ≡ get_or w.store i 0
  -- of the steps only an ACK sends others back to slot 0: one that does not end in ACK leaves every other job
  pub step_others : (j : ℕ) (w : World) (b : List ℕ) → acks (call (Step j b) w).out.outcome ≡ false
      → (i : ℕ) → (i ≡ j → ⊥) → job_at (call (Step j b) w).world.scheduler.jobs i ≡ job_at w.scheduler.jobs i
  -- "An ACK, a session start and a session end each send every other job in Match or awaiting Commit back to slot 0, marks cleared.":
  -- `restarted` leaves any other
  pub ack_restarts : (j : ℕ) (w : World) (b : List ℕ) → acks (call (Step j b) w).out.outcome ≡ true
      → (i : ℕ) → (i ≡ j → ⊥) → job_at (call (Step j b) w).world.scheduler.jobs i ≡ restarted (job_at w.scheduler.jobs i)
  pub start_restarts : (x : Session) (w : World) (k : ℕ) → insert_answer x w.table ≡ Ok k
      → (i : ℕ) → job_at (call (Start x) w).world.scheduler.jobs i ≡ restarted (job_at w.scheduler.jobs i)
  pub end_restarts : (k : ℕ) (w : World) → remove_answer k w.table ≡ Ok tt
      → (i : ℕ) → job_at (call (End k) w).world.scheduler.jobs i ≡ restarted (job_at w.scheduler.jobs i)
  -- "It is free again when a step finishes it.": ACK, NAK or discard
  pub done_frees : (j : ℕ) (w : World) (b : List ℕ) → finished_by (call (Step j b) w).out.outcome ≡ true
      → job_at (call (Step j b) w).world.scheduler.jobs j ≡ free_job
  -- "Dropping a job frees it and changes nothing else.": no other job
  pub drop_others : (j : ℕ) (w : World) (i : ℕ) → (i ≡ j → ⊥) → job_at (call (Drop j) w).world.scheduler.jobs i ≡ job_at w.scheduler.jobs i
  -- nor what the scheduler was made with
  pub drop_made : (j : ℕ) (w : World) → settings_of (call (Drop j) w).world.scheduler ≡ settings_of w.scheduler
  -- nor the table
  pub drop_table : (j : ℕ) (w : World) → (call (Drop j) w).world.table ≡ w.table
  -- nor the store
  pub drop_store : (j : ℕ) (w : World) → (call (Drop j) w).world.store ≡ w.store
  -- "Without outside writes this never happens.": no step discards as D1, which is what one answers that finds its part of the store altered
  pub never_reread : (s : D.Scheduler) → New s → (cs : List Call) (t store : List ℕ)
      → (j : ℕ) (b : List ℕ) → (call (Step j b) (run cs (world s t store)).world).out.outcome ≡ Done (A.Discarded R.Length) → ⊥
