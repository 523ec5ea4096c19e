-- The serial execution (document 01's plain book): each finished request is handled whole, as demand 2 gives it, at the call that finished it, with
-- the packet and clock of its opening. It is told a call's arguments, the store's length, and of a step whether it finished; of scheduler, caller's
-- table and store bytes nothing.
-- Assumes nothing.
use Rattle.std.specs.Prelude.{Bool, true, false, cond, List, [], ◌∷◌, ℕ, get_or, set, replicate, Option, Some, None, Result, Ok, Err}
use Rattle.refusals.specs.declared.Refusal.{Refusal}
use Rattle.refusals.specs.declared.Discard.{Discard}
use Rattle.nas_settings.specs.Settings.{Settings}
use Rattle.packet_form.specs.Discards.{form_of}
use Rattle.table_sessions.specs.Session.{insert_answer, insert_table, remove_answer, remove_table}
use Rattle.das_handle.specs.Handle.{handle_answer, handle_table, handle_reply}
use Rattle.sched_state.specs.declared.Outcome as O
use Rattle.sched_state.specs.declared.Outcome.TheVariants.{Refused, Discarded, Opened, Going, Done, Dropped, Started, Ended}
use Rattle.sched_state.specs.Scheduler.{lowest_free}
use Rattle.sched_state.specs.Refusals.{open_refusal, step_refusal, drop_refusal}
use Rattle.sched_state.specs.Runs.{Call, Open, Step, Drop, Start, End, Out}

-- a note or none for each job number: the packet as given, and the clock
pub data Note : Type 0 where
  unnoted : Note
  noted : List ℕ → ℕ → Note

abbrev pub is_noted : Note → Bool
is_noted unnoted = false
is_noted (noted p clock) = true

-- what the scheduler was made with, the table, and the notes
pub record Serial : Type 0 where
  pub settings : Settings
  pub table : List ℕ
  pub notes : List Note

pub record SerialDid : Type 0 where
  pub out : Out
  pub serial : Serial

unfoldable pub note_at : List Note → ℕ → Note
note_at ns j = get_or ns j unnoted

-- noted jobs are its open ones
unfoldable pub noted_at : List Note → ℕ → Bool
noted_at ns j = is_noted (note_at ns j)

abbrev pub serial_did : O.Outcome → List ℕ → Serial → SerialDid
serial_did o b s = record { out = record { outcome = o; reply = b }; serial = s }

abbrev pub with_table : Serial → List ℕ → Serial
with_table s t = record { settings = s.settings; table = t; notes = s.notes }

abbrev pub with_note : Serial → ℕ → Note → Serial
with_note s j n = record { settings = s.settings; table = s.table; notes = set s.notes j n }

-- a refusal comes before what the call does, d, and changes nothing; b is the call's reply buffer
abbrev pub serial_unless_refused : List ℕ → Serial → Option Refusal → SerialDid → SerialDid
serial_unless_refused b s (Some r) d = serial_did (Refused r) b s
serial_unless_refused b s None d = d

-- opening answers D1 to D3, or notes packet and clock at the lowest free number j and answers that number
abbrev pub serial_opened_as : List ℕ → ℕ → ℕ → Serial → Option Discard → SerialDid
serial_opened_as p clock j s (Some d) = serial_did (Discarded d) [] s
serial_opened_as p clock j s None = serial_did (Opened j) [] (with_note s j (noted p clock))

unfoldable pub serial_open : List ℕ → ℕ → ℕ → Serial → SerialDid
serial_open p clock size s =
    serial_unless_refused [] s (open_refusal (noted_at s.notes) size) (serial_opened_as p clock (lowest_free (noted_at s.notes)) s (form_of p))

-- a step that finished handles the noted packet whole and strikes the note
abbrev pub handled : Note → ℕ → List ℕ → Serial → SerialDid
handled unnoted j b s = serial_did Going b s  -- does not come: R7
handled (noted p clock) j b s =
    serial_did (Done (handle_answer s.settings s.table b p clock))
    (handle_reply s.settings s.table b p clock)
    (with_table (with_note s j unnoted) (handle_table s.settings s.table b p clock))

-- a step neither refused nor finished changes nothing and answers only that it did not finish
unfoldable pub serial_step : ℕ → List ℕ → Bool → ℕ → Serial → SerialDid
serial_step j b finished size s =
    serial_unless_refused b s (step_refusal (noted_at s.notes) size j s.table b)
    (cond finished (handled (note_at s.notes j) j b s) (serial_did Going b s))

-- drop strikes the note
unfoldable pub serial_drop : ℕ → Serial → SerialDid
serial_drop j s = serial_unless_refused [] s (drop_refusal (noted_at s.notes) j) (serial_did Dropped [] (with_note s j unnoted))

-- start and end act on its table
abbrev pub start_outcome : Result ℕ Refusal → O.Outcome
start_outcome (Ok k) = Started k
start_outcome (Err r) = Refused r

abbrev pub end_outcome : Result (Unit {0}) Refusal → O.Outcome
end_outcome (Ok x) = Ended
end_outcome (Err r) = Refused r

unfoldable pub serial_call : Call → Bool → ℕ → Serial → SerialDid
serial_call (Open p clock) finished size s = serial_open p clock size s
serial_call (Step j b) finished size s = serial_step j b finished size s
serial_call (Drop j) finished size s = serial_drop j s
serial_call (Start x) finished size s = serial_did (start_outcome (insert_answer x s.table)) [] (with_table s (insert_table x s.table))
serial_call (End k) finished size s = serial_did (end_outcome (remove_answer k s.table)) [] (with_table s (remove_table k s.table))

-- at first none is noted
abbrev pub at_first : Settings → List ℕ → Serial
at_first g t = record { settings = g; table = t; notes = replicate 4 unnoted }

-- a list of calls, each with whether it was a step that finished
pub record SerialRan : Type 0 where
  pub outs : List Out
  pub serial : Serial

unfoldable pub serial_run : List Call → List Bool → ℕ → Serial → SerialRan
serial_run [] fs size s = record { outs = []; serial = s }
-- does not come: there is one for each call
serial_run (c ∷ cs) [] size s = record { outs = []; serial = s }
serial_run (c ∷ cs) (f ∷ fs) size s =
    record {
      outs = (serial_call c f size s).out ∷ (serial_run cs fs size (serial_call c f size s).serial).outs;
      serial = (serial_run cs fs size (serial_call c f size s).serial).serial;
    }
