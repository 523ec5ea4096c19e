-- Demand 3, as one record: for every list of calls on a newly made scheduler, the answers, the reply buffers and the table are those of the serial
-- execution (`Serial.antt`), and all open requests are finished by the 912th further step that is not refused.
-- Assumes nothing.
use Rattle.std.specs.Prelude.{Bool, true, false, ◌&&◌, List, [], ◌∷◌, ◌++◌, map, ◌≡◌, ℕ, ◌+◌, ◌≤◌, length, replicate, None}
use Rattle.nas_settings.specs.Settings.{Settings}
use Rattle.sched_job.specs.Job.{free_job}
use Rattle.sched_state.specs.declared.Scheduler as D
use Rattle.sched_state.specs.declared.Outcome as O
use Rattle.sched_state.specs.declared.Outcome.TheVariants.{Refused, Discarded, Opened, Going, Done, Dropped, Started, Ended}
use Rattle.sched_state.specs.Scheduler.{settings_of, open_at, Ours}
use Rattle.sched_state.specs.Refusals.{make_refusal}
use Rattle.sched_state.specs.Making.{made_of}
use Rattle.sched_state.specs.Runs.{Call, World, Out, Ran, run}
use Rattle.thm_serial.specs.Serial.{SerialRan, noted_at, at_first, serial_run}

-- of an answer only whether a step finished
abbrev pub finished_by : O.Outcome → Bool
finished_by (Refused r) = false
finished_by (Discarded d) = false
finished_by (Opened j) = false
finished_by Going = false
finished_by (Done a) = true
finished_by Dropped = false
finished_by (Started k) = false
finished_by Ended = false

abbrev pub finished : Out → Bool
finished o = finished_by o.outcome

-- nothing was opened, dropped, started or ended
abbrev pub quiet_by : O.Outcome → Bool
quiet_by (Refused r) = true
quiet_by (Discarded d) = true
quiet_by (Opened j) = false
quiet_by Going = true
quiet_by (Done a) = true
quiet_by Dropped = false
quiet_by (Started k) = false
quiet_by Ended = false

unfoldable pub quiet : List Out → Bool
quiet [] = true
quiet (o ∷ os) = quiet_by o.outcome && quiet os

-- the steps that were not refused
abbrev pub counts_by : O.Outcome → ℕ
counts_by (Refused r) = 0
counts_by (Discarded d) = 0
counts_by (Opened j) = 0
counts_by Going = 1
counts_by (Done a) = 1
counts_by Dropped = 0
counts_by (Started k) = 0
counts_by Ended = 0

unfoldable pub steps_taken : List Out → ℕ
steps_taken [] = 0
steps_taken (o ∷ os) = counts_by o.outcome + steps_taken os

-- 4 * 132 + (3 + 2 + 1) * 64: four jobs, and each ACK sends those that are left over the slots once more
abbrev pub most_steps : ℕ
most_steps = 912

-- a scheduler, a table and a store
abbrev pub world : D.Scheduler → List ℕ → List ℕ → World
world s t store = record { scheduler = s; table = t; store = store }

-- the run of ds after cs
abbrev pub later : D.Scheduler → List Call → List Call → List ℕ → List ℕ → Ran
later s cs ds t store = run ds (run cs (world s t store)).world

-- the serial execution of the same list
unfoldable pub serially : List Call → D.Scheduler → List ℕ → List ℕ → SerialRan
serially cs s t store = serial_run cs (map finished (run cs (world s t store)).outs) (length store) (at_first (settings_of s) t)

-- s is newly made: ours, and no job is open
pub record New (s : D.Scheduler) : Type 0 where
  pub ours : Ours s
  pub free : s.jobs ≡ replicate 4 free_job

pub record Demand3 : Type 0 where
  -- what making gives, where it does not refuse, is newly made, and holds what it was made with
  pub made : (g : Settings) → make_refusal g ≡ None → New (made_of g) × (settings_of (made_of g) ≡ g)
  -- every answer along the way and every step's reply buffer
  pub answers : (s : D.Scheduler) → New s → (cs : List Call) (t store : List ℕ) → (run cs (world s t store)).outs ≡ (serially cs s t store).outs
  -- after the list the table
  pub table : (s : D.Scheduler) → New s → (cs : List Call) (t store : List ℕ)
      → (run cs (world s t store)).world.table ≡ (serially cs s t store).serial.table
  -- if nothing is opened, started, ended or dropped after that, all open requests are finished by the 912th further step that is not refused
  pub ends : (s : D.Scheduler) → New s → (cs ds : List Call) (t store : List ℕ)
      → quiet (later s cs ds t store).outs ≡ true → most_steps ≤ steps_taken (later s cs ds t store).outs
      → (j : ℕ) → open_at (later s cs ds t store).world.scheduler.jobs j ≡ false
  -- and the serial execution has no note left
  pub no_notes : (s : D.Scheduler) → New s → (cs ds : List Call) (t store : List ℕ)
      → quiet (later s cs ds t store).outs ≡ true → most_steps ≤ steps_taken (later s cs ds t store).outs
      → (j : ℕ) → noted_at (serially (cs ++ ds) s t store).serial.notes j ≡ false
