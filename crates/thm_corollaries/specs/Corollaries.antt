-- What the demands give together, as one record. After any list of calls on a newly made scheduler: the reply of a step that finishes a request
-- passes our reply check against the packet of its opening; a request from our writer is not discarded when it is opened, and a step discards it
-- for its stamp alone (D6). And what a call's contract says is the next state of the list's run, so that demand 3 follows from the contracts.
-- Assumes nothing.
use Rattle.std.specs.Prelude.{false, List, [], ◌∷◌, ◌≡◌, ℕ, Option, None, Ok}
use Rattle.refusals.specs.declared.Discard.{Discard}
use Rattle.refusals.specs.declared.Discard.TheVariants as R
use Rattle.octet_numbers.specs.Runs.{write}
use Rattle.table_records.specs.Record.{Session}
use Rattle.table_sessions.specs.Session.{insert_table, remove_table}
use Rattle.rule_causes.specs.declared.cause.Cause.{Cause}
use Rattle.das_reply_parts.specs.Reply.{reply_of}
use Rattle.das_answer.specs.declared.Answer.{Answer}
use Rattle.das_answer.specs.declared.Answer.TheVariants as A
use Rattle.dac_write.specs.Writer.{Draft, write_refusal, request_of}
use Rattle.dac_check.specs.ReplyCheck.{check_answer}
use Rattle.sched_state.specs.declared.Scheduler as D
use Rattle.sched_state.specs.declared.Called as C
use Rattle.sched_state.specs.declared.Outcome.TheVariants.{Discarded, Done}
use Rattle.sched_state.specs.Scheduler.{settings_of}
use Rattle.sched_state.specs.Calls.{open_called, open_store, step_called, step_table, step_reply, drop_called, start_called, end_called}
use Rattle.sched_state.specs.Runs.{Call, Open, Step, Drop, Start, End, World, Ran, call, run}
use Rattle.thm_serial.specs.Serial.{Note, noted, note_at}
use Rattle.thm_serial.specs.Demand3.{world, serially, New}
use Rattle.das_answer.specs.Replied.{silent}

-- b is the reply buffer before, r after: it holds a reply to the request p, and that reply passes our check
pub record Passes (secret p b r : List ℕ) : Type 0 where
  pub cause : Option Cause
  pub written : r ≡ write b 0 (reply_of secret p cause)
  pub right : check_answer secret p (reply_of secret p cause) ≡ Ok tt

-- secret is the scheduler's, w what a list of calls left, notes the packets and clocks that the serial execution of that list has noted
pub record After (secret : List ℕ) (w : World) (notes : List Note) : Type 0 where
  -- a step that finishes the request p with an answer writes a reply that passes
  pub replies_pass : (j clock : ℕ) (b p : List ℕ) (a : Answer) → note_at notes j ≡ noted p clock
      → (call (Step j b) w).out.outcome ≡ Done a → silent a ≡ false → Passes secret p b (call (Step j b) w).out.reply
  -- a request that our writer does not refuse meets none of D1 to D3 at its opening
  pub written_opens : (out : List ℕ) (d : Draft) → write_refusal secret out d ≡ None
      → (clock : ℕ) (why : Discard) → (call (Open (request_of secret d) clock) w).out.outcome ≡ Discarded why → ⊥
  -- and none of D1 to D5 in its steps
  pub written_steps : (out : List ℕ) (d : Draft) → write_refusal secret out d ≡ None
      → (j clock : ℕ) (b : List ℕ) (why : Discard) → note_at notes j ≡ noted (request_of secret d) clock
      → (call (Step j b) w).out.outcome ≡ Done (A.Discarded why) → why ≡ R.Timestamp

-- what the next call takes
abbrev pub next : C.Called → List ℕ → List ℕ → World
next x t store = record { scheduler = x.scheduler; table = t; store = store }

-- the run of a list whose first call gave x and left the reply buffer b, the table t and the store
abbrev pub followed : C.Called → List ℕ → List ℕ → List ℕ → List Call → Ran
followed x b t store cs =
    record { outs = record { outcome = x.outcome; reply = b } ∷ (run cs (next x t store)).outs; world = (run cs (next x t store)).world }

-- x, t, b and store are what a call gives back; the premises are its contract
pub record Chained (w : World) (cs : List Call) : Type 0 where
  pub opening : (p : List ℕ) (clock : ℕ) (x : C.Called) (store : List ℕ)
      → x ≡ open_called w.scheduler p clock w.store → store ≡ open_store w.scheduler p w.store
      → run (Open p clock ∷ cs) w ≡ followed x [] w.table store cs
  pub stepping : (j : ℕ) (before : List ℕ) (x : C.Called) (t b : List ℕ) → x ≡ step_called w.scheduler j w.table before w.store
      → t ≡ step_table w.scheduler j w.table before w.store → b ≡ step_reply w.scheduler j w.table before w.store
      → run (Step j before ∷ cs) w ≡ followed x b t w.store cs
  pub dropping : (j : ℕ) (x : C.Called) → x ≡ drop_called w.scheduler j → run (Drop j ∷ cs) w ≡ followed x [] w.table w.store cs
  pub starting : (n : Session) (x : C.Called) (t : List ℕ) → x ≡ start_called w.scheduler n w.table → t ≡ insert_table n w.table
      → run (Start n ∷ cs) w ≡ followed x [] t w.store cs
  pub ending : (k : ℕ) (x : C.Called) (t : List ℕ) → x ≡ end_called w.scheduler k w.table → t ≡ remove_table k w.table
      → run (End k ∷ cs) w ≡ followed x [] t w.store cs

pub record Corollaries : Type 0 where
  pub after : (s : D.Scheduler) → New s → (cs : List Call) (t store : List ℕ)
      → After (settings_of s).secret (run cs (world s t store)).world (serially cs s t store).serial.notes
  pub chained : (w : World) (cs : List Call) → Chained w cs
