-- A list of calls on a scheduler, its table and its store, each as the calls before it left them.
-- Assumes nothing.
use Rattle.std.specs.Prelude.{List, [], ◌∷◌, ℕ}
use Rattle.table_records.specs.Record.{Session}
use Rattle.table_sessions.specs.Session.{insert_table, remove_table}
use Rattle.sched_state.specs.declared.Scheduler as D
use Rattle.sched_state.specs.declared.Outcome as O
use Rattle.sched_state.specs.declared.Called as C
use Rattle.sched_state.specs.Calls.{open_called, open_store, step_called, step_table, step_reply, drop_called, start_called, end_called}

-- a call, by its arguments alone: a packet and a clock; a job and a reply buffer; a job; a session; a slot
pub data Call : Type 0 where
  Open : List ℕ → ℕ → Call
  Step : ℕ → List ℕ → Call
  Drop : ℕ → Call
  Start : Session → Call
  End : ℕ → Call

-- what calls take of scheduler, table and store
pub record World : Type 0 where
  pub scheduler : D.Scheduler
  pub table : List ℕ
  pub store : List ℕ

-- an answer, and the reply buffer after the call; of a call with no reply buffer nothing
pub record Out : Type 0 where
  pub outcome : O.Outcome
  pub reply : List ℕ

pub record Did : Type 0 where
  pub out : Out
  pub world : World

abbrev pub did : C.Called → List ℕ → List ℕ → List ℕ → Did
did c b t store = record { out = record { outcome = c.outcome; reply = b }; world = record { scheduler = c.scheduler; table = t; store = store } }

unfoldable pub call : Call → World → Did
call (Open p clock) w = did (open_called w.scheduler p clock w.store) [] w.table (open_store w.scheduler p w.store)
call (Step j b) w =
    did (step_called w.scheduler j w.table b w.store) (step_reply w.scheduler j w.table b w.store) (step_table w.scheduler j w.table b w.store) w.store
call (Drop j) w = did (drop_called w.scheduler j) [] w.table w.store
call (Start x) w = did (start_called w.scheduler x w.table) [] (insert_table x w.table) w.store
call (End k) w = did (end_called w.scheduler k w.table) [] (remove_table k w.table) w.store

-- the answers along the way, and what is left
pub record Ran : Type 0 where
  pub outs : List Out
  pub world : World

unfoldable pub run : List Call → World → Ran
run [] w = record { outs = []; world = w }
run (c ∷ cs) w = record { outs = (call c w).out ∷ (run cs (call c w).world).outs; world = (run cs (call c w).world).world }
