-- What each call leaves of the arrays that C lends. A refusal, and a discard at opening, leave all of them as they were; what was fixed at making no call writes.
-- Assumes nothing.
use Rattle.std.specs.Prelude.{Bool, cond, List, [], ◌∷◌, ℕ, eqb, get_or, set, is_none}
use Rattle.table_slots.specs.Marks.{no_marks}
use Rattle.table_records.specs.Record.{Session}
use Rattle.nas_settings.specs.Settings.{Settings}
use Rattle.packet_form.specs.Packet.{length_of}
use Rattle.sched_job.specs.declared.Job as B
use Rattle.sched_job.specs.Job.{free_job, first_job}
use Rattle.sched_state.specs.declared.Outcome as O
use Rattle.sched_state.specs.declared.Outcome.TheVariants.{Refused, Discarded, Opened, Going, Done, Dropped, Started, Ended}
use Rattle.sched_state.specs.Refusals.{make_refusal}
use Rattle.sched_state.specs.Making.{made_of}
use Rattle.sched_state.specs.Calls.{is_ack, open_called, moved_of, step_called, drop_called, start_called, end_called}
use Rattle.sched_rows.specs.Layout.{Held, held, held_of, kind_row, place_row, scheduler_in}

-- job j's rows written
abbrev pub put_job : Held → ℕ → B.Job → Held
put_job h j b =
    held (set h.words j b.words) (set h.kinds j (kind_row b)) (set h.places j (place_row b)) (set h.marks j b.marks)
    h.secret h.secret_size h.nas_ip h.nas_id h.name_size

-- job j is in Match or awaits Commit, by its kind
abbrev pub past_check : List (List ℕ) → ℕ → Bool
past_check ks j = eqb (get_or (get_or ks j []) 0 0) 3

-- then it goes back to slot 0, its marks cleared
unfoldable pub restart_place : List (List ℕ) → ℕ → List (List ℕ) → List (List ℕ)
restart_place ks j ps = cond (past_check ks j) (set ps j (0 ∷ get_or (get_or ps j []) 1 0 ∷ [])) ps

unfoldable pub restart_mark : List (List ℕ) → ℕ → List (List ℕ) → List (List ℕ)
restart_mark ks j ms = cond (past_check ks j) (set ms j no_marks) ms

-- all four
abbrev pub restart_places : List (List ℕ) → List (List ℕ) → List (List ℕ)
restart_places ks ps = restart_place ks 3 (restart_place ks 2 (restart_place ks 1 (restart_place ks 0 ps)))

abbrev pub restart_marks : List (List ℕ) → List (List ℕ) → List (List ℕ)
restart_marks ks ms = restart_mark ks 3 (restart_mark ks 2 (restart_mark ks 1 (restart_mark ks 0 ms)))

abbrev pub restart_held : Held → Held
restart_held h =
    held h.words h.kinds (restart_places h.kinds h.places) (restart_marks h.kinds h.marks)
    h.secret h.secret_size h.nas_ip h.nas_id h.name_size

-- by a call's answer; b is the job that it leaves, j the number that it was given
unfoldable pub left_by : O.Outcome → ℕ → B.Job → Held → Held
left_by (Refused r) j b h = h
left_by (Discarded d) j b h = h
left_by (Opened i) j b h = put_job h i b
left_by Going j b h = put_job h j b
left_by (Done a) j b h = cond (is_ack a) (restart_held (put_job h j b)) (put_job h j b)
left_by Dropped j b h = put_job h j b
left_by (Started k) j b h = restart_held h
left_by Ended j b h = restart_held h

-- making writes all, where it does not refuse
unfoldable pub make_left : Settings → Held → Held
make_left g h = cond (is_none (make_refusal g)) (held_of (made_of g)) h

abbrev pub open_left : Held → List ℕ → ℕ → List ℕ → Held
open_left h p clock store = left_by (open_called (scheduler_in h) p clock store).outcome 0 (first_job (length_of p) clock) h

abbrev pub step_left : Held → ℕ → List ℕ → List ℕ → List ℕ → Held
step_left h j t b store = left_by (step_called (scheduler_in h) j t b store).outcome j (moved_of (scheduler_in h) j t store).job h

abbrev pub drop_left : Held → ℕ → Held
drop_left h j = left_by (drop_called (scheduler_in h) j).outcome j free_job h

-- a start and an end put no job anywhere
abbrev pub start_left : Held → Session → List ℕ → Held
start_left h x t = left_by (start_called (scheduler_in h) x t).outcome 0 free_job h

abbrev pub end_left : Held → ℕ → List ℕ → Held
end_left h k t = left_by (end_called (scheduler_in h) k t).outcome 0 free_job h
