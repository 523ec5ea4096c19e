-- A scheduler that making and our calls can have produced stays one after every call, whatever table and store hold: secret and identity never
-- change, the jobs stay four, and each of them stays such a job.
-- Assumes nothing.
use mathlib.Core.Path.{◌≡◌, refl}
use mathlib.Core.Bool.{Bool, true, false, cond}
use mathlib.Core.List.{List}
use Prim.Native.Nat.{ℕ, ◌<◌}
use native.Mathlib.Decide.{ℕ_discrete}
use native.Mathlib.Omega.{arith}
use lib.ListN.{length, set, length-set, length-map, get_or-map}
use lib.Seq.{get_or-set_same, get_or-set_other, length-take-le}
use Rattle.std.specs.Prelude.{Option, Some, None, Result, Ok, Err}
use Rattle.refusals.specs.declared.Refusal.{Refusal}
use Rattle.refusals.specs.declared.Discard.{Discard}
use Rattle.table_records.specs.Record.{Session}
use Rattle.table_sessions.specs.Session.{insert_answer, remove_answer}
use Rattle.packet_form.specs.Packet.{length_of}
use Rattle.packet_form.specs.Discards.{form_of}
use Rattle.das_answer.specs.declared.Answer.{Answer}
use Rattle.sched_job.specs.declared.Job as B
use Rattle.sched_job.specs.declared.Moved as M
use Rattle.sched_job.specs.Job.{free_job, first_job, restarted, JobOurs}
use Rattle.sched_state.specs.declared.Scheduler as D
use Rattle.sched_state.specs.declared.Outcome.TheVariants as O
use Rattle.sched_state.specs.Scheduler.{settings_of, job_at, open_at, lowest_free, with_job, restart_all, part_of, Ours}
use Rattle.sched_state.specs.Refusals.{open_refusal, step_refusal, drop_refusal}
use Rattle.sched_state.specs.Calls.{called, unless_refused, opened_as, is_ack, stepped_as, moved_of}
use Rattle.sched_state.specs.Calls.{open_called, step_called, drop_called, started_as, start_called, ended_as, end_called}
use Rattle.sched_state.specs.Runs.{Call, Open, Step, Drop, Start, End, World, call}
use Rattle.thm_serial.proofs.Invariant.{open_below}
use Rattle.thm_serial.proofs.Refusals.{step_admitted, drop_admitted, open_admitted}
use Rattle.thm_serial.proofs.OurJobs.{moved_ours, restarted_ours, first_ours}

-- ---- the same scheduler with other jobs

restart_ours : (s : D.Scheduler) → Ours s → Ours (restart_all s)
unfolding restarted
restart_ours s o =
    record {
      secret_low = o.secret_low;
      secret_high = o.secret_high;
      name_low = o.name_low;
      name_high = o.name_high;
      secret_room = o.secret_room;
      name_room = o.name_room;
      four = simp length-map o.four;
      each = λ i. rw (get_or-map restarted s.jobs i free_job) (restarted_ours s.secret_size (job_at s.jobs i) (o.each i));
    }

module _ (s : D.Scheduler) (o : Ours s) where
  stored_ours : (j : ℕ) (x : B.Job) → j < 4 → JobOurs s.secret_size x → Ours (with_job s j x)
  stored_ours j x l h =
      record {
        secret_low = o.secret_low;
        secret_high = o.secret_high;
        name_low = o.name_low;
        name_high = o.name_high;
        secret_room = o.secret_room;
        name_room = o.name_room;
        four = simp length-set o.four;
        each = λ i. go i (ℕ_discrete i j);
      }
    where
      go : (i : ℕ) → Dec (i ≡ j) → JobOurs s.secret_size (job_at (set s.jobs j x) i)
      go i (yes e) = rw (e, get_or-set_same s.jobs j x free_job (omega (arith, o.four))) h
      go i (no ne) = rw (get_or-set_other s.jobs j i x free_job ne) (o.each i)

  below : (j : ℕ) → open_at s.jobs j ≡ true → j < 4
  below j e = omega (arith, o.four, open_below s.jobs j e)

  -- ---- Open

  by_open : (f : Option Refusal) (d : Option Discard) (p : List ℕ) (clock : ℕ) → (f ≡ None → lowest_free (open_at s.jobs) < 4) → form_of p ≡ d
      → Ours (unless_refused s f (opened_as s p clock d)).scheduler
  by_open None None p clock l e =
      stored_ours (lowest_free (open_at s.jobs)) (first_job (length_of p) clock) (l refl) (first_ours s.secret_size p clock e)
  by_open None (Some d) p clock l e = o
  by_open (Some r) d p clock l e = o

  pub open_ours : (p : List ℕ) (clock : ℕ) (store : List ℕ) → Ours (open_called s p clock store).scheduler
  unfolding open_called
  open_ours p clock store =
      by_open (open_refusal (open_at s.jobs) (length store)) (form_of p) p clock (λ e. (open_admitted (open_at s.jobs) (length store) e).1) refl

  -- ---- Step

  by_ack : (f : Bool) (x : D.Scheduler) → Ours x → Ours (cond f (restart_all x) x)
  by_ack true x h = restart_ours x h
  by_ack false x h = h

  by_ending : (j : ℕ) (m : M.Moved) (e : Option Answer) → j < 4 → JobOurs s.secret_size m.job → Ours (stepped_as s j m e).scheduler
  by_ending j m None l h = stored_ours j m.job l h
  by_ending j m (Some a) l h = by_ack (is_ack a) (with_job s j m.job) (stored_ours j m.job l h)

  secret_long : length (settings_of s).secret ≡ s.secret_size
  secret_long = length-take-le s.secret_size s.secret (omega (arith, o.secret_high, o.secret_room))

  by_step : (f : Option Refusal) (j : ℕ) (t store : List ℕ) → (f ≡ None → j < 4)
      → Ours (unless_refused s f (stepped_as s j (moved_of s j t store) (moved_of s j t store).ending)).scheduler
  by_step None j t store l =
      by_ending j (moved_of s j t store) (moved_of s j t store).ending (l refl)
      (moved_ours (settings_of s) s.secret_size (job_at s.jobs j) (part_of j store) t secret_long (o.each j))
  by_step (Some r) j t store l = o

  pub step_ours : (j : ℕ) (t b store : List ℕ) → Ours (step_called s j t b store).scheduler
  unfolding step_called
  step_ours j t b store =
      by_step (step_refusal (open_at s.jobs) (length store) j t b) j t store
      (λ e. below j (step_admitted (open_at s.jobs) (length store) j t b e).open_is)

  -- ---- Drop, Start, End

  by_drop : (f : Option Refusal) (j : ℕ) → (f ≡ None → j < 4) → Ours (unless_refused s f (called (with_job s j free_job) O.Dropped)).scheduler
  by_drop None j l = stored_ours j free_job (l refl) tt
  by_drop (Some r) j l = o

  pub drop_ours : (j : ℕ) → Ours (drop_called s j).scheduler
  unfolding drop_called
  drop_ours j = by_drop (drop_refusal (open_at s.jobs) j) j (λ e. below j (drop_admitted (open_at s.jobs) 0 j e))

  by_start : (v : Result ℕ Refusal) → Ours (started_as s v).scheduler
  by_start (Ok k) = restart_ours s o
  by_start (Err r) = o

  pub start_ours : (x : Session) (t : List ℕ) → Ours (start_called s x t).scheduler
  unfolding start_called
  start_ours x t = by_start (insert_answer x t)

  by_end : (v : Result (Unit {0}) Refusal) → Ours (ended_as s v).scheduler
  by_end (Ok x) = restart_ours s o
  by_end (Err r) = o

  pub end_ours : (k : ℕ) (t : List ℕ) → Ours (end_called s k t).scheduler
  unfolding end_called
  end_ours k t = by_end (remove_answer k t)

-- any call
pub call_ours : (c : Call) (w : World) → Ours w.scheduler → Ours (call c w).world.scheduler
unfolding call
call_ours (Open p clock) w o = open_ours w.scheduler o p clock w.store
call_ours (Step j b) w o = step_ours w.scheduler o j w.table b w.store
call_ours (Drop j) w o = drop_ours w.scheduler o j
call_ours (Start x) w o = start_ours w.scheduler o x w.table
call_ours (End k) w o = end_ours w.scheduler o k w.table
