-- The calls on a scheduler (document 01, "The desk"): for each the scheduler and the answer after it, and what it leaves of table, reply buffer and store.
-- Assumes nothing.
use Rattle.std.specs.Prelude.{Bool, true, false, cond, List, ℕ, ◌*◌, length, take, Option, Some, None, Result, Ok, Err, is_none}
use Rattle.refusals.specs.declared.Refusal.{Refusal}
use Rattle.refusals.specs.declared.Discard.{Discard}
use Rattle.octet_numbers.specs.Runs.{write}
use Rattle.packet_form.specs.Packet.{length_of}
use Rattle.packet_form.specs.Discards.{form_of}
use Rattle.table_records.specs.Record.{Session}
use Rattle.table_sessions.specs.Session.{insert_answer, remove_answer}
use Rattle.das_answer.specs.declared.Answer as A
use Rattle.das_answer.specs.declared.Answer.TheVariants as Y
use Rattle.sched_job.specs.declared.Moved as M
use Rattle.sched_job.specs.Job.{free_job, first_job}
use Rattle.sched_job.specs.Moves.{moved, moved_table, reply_after}
use Rattle.sched_state.specs.declared.Scheduler as D
use Rattle.sched_state.specs.declared.Outcome as O
use Rattle.sched_state.specs.declared.Outcome.TheVariants.{Refused, Discarded, Opened, Going, Done, Dropped, Started, Ended}
use Rattle.sched_state.specs.declared.Called as C
use Rattle.sched_state.specs.Scheduler.{settings_of, job_at, open_at, lowest_free, with_job, restart_all, part_of}
use Rattle.sched_state.specs.Refusals.{open_refusal, step_refusal, drop_refusal}

abbrev pub called : D.Scheduler → O.Outcome → C.Called
called s o = record { scheduler = s; outcome = o }

-- a refusal comes before what the call does, c, and leaves the scheduler as it was
abbrev pub unless_refused : D.Scheduler → Option Refusal → C.Called → C.Called
unless_refused s (Some r) c = called s (Refused r)
unless_refused s None c = c

-- opening: D1 to D3 at once without using a job, else the lowest free job, and the packet's Length bytes to the front of its part
abbrev pub opened_as : D.Scheduler → List ℕ → ℕ → Option Discard → C.Called
opened_as s p clock (Some d) = called s (Discarded d)
opened_as s p clock None = called (with_job s (lowest_free (open_at s.jobs)) (first_job (length_of p) clock)) (Opened (lowest_free (open_at s.jobs)))

unfoldable pub open_called : D.Scheduler → List ℕ → ℕ → List ℕ → C.Called
open_called s p clock store = unless_refused s (open_refusal (open_at s.jobs) (length store)) (opened_as s p clock (form_of p))

unfoldable pub open_store : D.Scheduler → List ℕ → List ℕ → List ℕ
open_store s p store =
    cond (is_none (open_refusal (open_at s.jobs) (length store)))
    (cond (is_none (form_of p)) (write store (lowest_free (open_at s.jobs) * 4096) (take (length_of p) p)) store)
    store

-- an ACK sends every other job past Check back to slot 0
abbrev pub is_ack : A.Answer → Bool
is_ack (Y.Refused r) = false
is_ack (Y.Discarded d) = false
is_ack (Y.Stale skew) = false
is_ack (Y.Nak c skew n) = false
is_ack (Y.Ack k skew n) = true

-- a step: the job that it takes is given back, moved
abbrev pub stepped_as : D.Scheduler → ℕ → M.Moved → Option A.Answer → C.Called
stepped_as s j m None = called (with_job s j m.job) Going
stepped_as s j m (Some a) = called (cond (is_ack a) (restart_all (with_job s j m.job)) (with_job s j m.job)) (Done a)

abbrev pub moved_of : D.Scheduler → ℕ → List ℕ → List ℕ → M.Moved
moved_of s j t store = moved (settings_of s) (job_at s.jobs j) (part_of j store) t

unfoldable pub step_called : D.Scheduler → ℕ → List ℕ → List ℕ → List ℕ → C.Called
step_called s j t b store =
    unless_refused s (step_refusal (open_at s.jobs) (length store) j t b) (stepped_as s j (moved_of s j t store) (moved_of s j t store).ending)

unfoldable pub step_table : D.Scheduler → ℕ → List ℕ → List ℕ → List ℕ → List ℕ
step_table s j t b store =
    cond (is_none (step_refusal (open_at s.jobs) (length store) j t b))
    (moved_table (settings_of s) (job_at s.jobs j) (part_of j store) t)
    t

unfoldable pub step_reply : D.Scheduler → ℕ → List ℕ → List ℕ → List ℕ → List ℕ
step_reply s j t b store =
    cond (is_none (step_refusal (open_at s.jobs) (length store) j t b))
    (reply_after (settings_of s).secret (part_of j store) b (moved_of s j t store).ending)
    b

-- dropping a job frees it and changes nothing else
unfoldable pub drop_called : D.Scheduler → ℕ → C.Called
drop_called s j = unless_refused s (drop_refusal (open_at s.jobs) j) (called (with_job s j free_job) Dropped)

-- a session start and a session end each restart the jobs past Check; a refused one restarts nobody
abbrev pub started_as : D.Scheduler → Result ℕ Refusal → C.Called
started_as s (Ok k) = called (restart_all s) (Started k)
started_as s (Err r) = called s (Refused r)

unfoldable pub start_called : D.Scheduler → Session → List ℕ → C.Called
start_called s x t = started_as s (insert_answer x t)

abbrev pub ended_as : D.Scheduler → Result (Unit {0}) Refusal → C.Called
ended_as s (Ok x) = called (restart_all s) Ended
ended_as s (Err r) = called s (Refused r)

unfoldable pub end_called : D.Scheduler → ℕ → List ℕ → C.Called
end_called s k t = ended_as s (remove_answer k t)
