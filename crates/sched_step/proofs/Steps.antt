-- A step, refused or not. A refusal leaves all that is lent as it was. A step that is not refused works on the bytes of secret and name that count, so what it does to the rows,
-- the table and the reply buffer is what the definition says of the scheduler that C holds.
-- Assumes nothing.
use mathlib.Core.Bool.{Bool, true, false, cond}
use mathlib.Core.List.{List}
use mathlib.Core.Path.{◌≡◌, refl, sym, ap, ◌∙◌}
use Prim.Native.Nat.{ℕ}
use lib.IntN.{ℤ}
use lib.ListN.{length, set}
use Rattle.std.specs.Prelude.{Option, Some, None}
use Rattle.refusals.specs.declared.Refusal.{Refusal}
use Rattle.refusals.specs.Numbers.{refusal_number}
use Rattle.das_answer.specs.declared.Answer as A
use Rattle.sched_job.specs.declared.Moved as M
use Rattle.nas_settings.specs.Settings.{Settings}
use Rattle.sched_job.specs.Moves.{moved_table, reply_after}
use Rattle.sched_state.specs.declared.Scheduler as D
use Rattle.sched_state.specs.declared.Outcome as O
use Rattle.sched_state.specs.Scheduler.{settings_of, job_at, open_at, part_of}
use Rattle.sched_state.specs.Refusals.{step_refusal}
use Rattle.sched_state.specs.Calls.{is_ack, stepped_as, moved_of, step_called, step_table, step_reply}
use Rattle.sched_rows.specs.Layout.{Held, held, kind_row, place_row, secret_in, jobs_in, scheduler_in}
use Rattle.sched_rows.specs.Left.{put_job, restart_places, restart_marks, restart_held, left_by, step_left}
use Rattle.c_numbers.specs.declared.numbers.Told.{Told}
use Rattle.c_numbers.specs.Numbers.{told, answer_told}
use Rattle.c_told.specs.Told.{told_by, outcome_of}
use Rattle.sched_step.specs.Moved.{rows_moved, places_after, marks_after}

-- ---- refused

module _ (ws ks ps ms : List (List ℕ)) (secret : List ℕ) (size nas_ip : ℕ) (nas_id : List ℕ) (label j : ℕ) (t b store : List ℕ) (z : ℕ) (r : Refusal)
    (ez : z ≡ secret_in size) (is : Some r ≡ step_refusal (open_at (jobs_in z ws ks ps ms)) (length store) j t b) where
  abbrev given : Held
  given = held ws ks ps ms secret size nas_ip nas_id label

  pub refused_told : (v : ℕ) (k : ℤ) (old : Told) → v ≡ refusal_number r → k ≡ old.skew
      → told v old.changed old.length k old.stamped ≡ told_by (step_called (scheduler_in given) j t b store).outcome old
  unfolding step_called told_by answer_told
  refused_told v k old e same = rw (← ez, ← is, e, same)

  pub refused_left : (ws' ks' ps' ms' : List (List ℕ)) → ws' ≡ ws → ks' ≡ ks → ps' ≡ ps → ms' ≡ ms
      → held ws' ks' ps' ms' secret size nas_ip nas_id label ≡ step_left given j t b store
  unfolding step_called left_by
  refused_left ws' ks' ps' ms' ew ek ep em = rw (ew, ek, ep, em, ← ez, ← is)

  pub refused_table : t ≡ step_table (scheduler_in given) j t b store
  unfolding step_table
  refused_table = rw (← ez, ← is)

  pub refused_reply : b ≡ step_reply (scheduler_in given) j t b store
  unfolding step_reply
  refused_reply = rw (← ez, ← is)

-- ---- not refused

stepped_outcome : (s : D.Scheduler) (j : ℕ) (m : M.Moved) (e : Option A.Answer) → (stepped_as s j m e).outcome ≡ outcome_of e
stepped_outcome s j m None = refl
stepped_outcome s j m (Some a) = refl

module _ (ws ks ps ms : List (List ℕ)) (secret : List ℕ) (size nas_ip : ℕ) (nas_id : List ℕ) (label j : ℕ) where
  abbrev before : Held
  before = held ws ks ps ms secret size nas_ip nas_id label

  -- the rows written one by one are what the definition leaves
  by_ack : (m : M.Moved) (a : Bool) → ◌≡◌ {A = Held}
      (held (set ws j m.job.words) (set ks j (kind_row m.job))
      (cond a (restart_places (set ks j (kind_row m.job)) (set ps j (place_row m.job))) (set ps j (place_row m.job)))
      (cond a (restart_marks (set ks j (kind_row m.job)) (set ms j m.job.marks)) (set ms j m.job.marks)) secret size nas_ip nas_id label)
      (cond a (restart_held (put_job before j m.job)) (put_job before j m.job))
  by_ack m true = refl
  by_ack m false = refl

  by_ending : (m : M.Moved) (e : Option A.Answer) → m.ending ≡ e
      → held (set ws j m.job.words) (set ks j (kind_row m.job)) (places_after m j ks ps) (marks_after m j ks ms) secret size nas_ip nas_id label ≡ left_by (outcome_of e) j m.job before
  unfolding places_after marks_after left_by
  by_ending m None is = rw is
  by_ending m (Some a) is = rw is (by_ack m (is_ack a))

  -- g is what the scheduler was made with, of secret and name the bytes that count
  module _ (t b store : List ℕ) (g : Settings) (eg : g ≡ settings_of (scheduler_in before)) (long : length g.secret ≡ secret_in size)
      (is : None ≡ step_refusal (open_at (jobs_in (length g.secret) ws ks ps ms)) (length store) j t b) where
    read : step_refusal (open_at (scheduler_in before).jobs) (length store) j t b ≡ None
    read = rw (← long) (sym is)

    -- the job as moved
    as_moved : rows_moved g ws ks ps ms j (part_of j store) t ≡ moved_of (scheduler_in before) j t store
    as_moved = rw (long, eg)

    went : (step_called (scheduler_in before) j t b store).outcome ≡ outcome_of (moved_of (scheduler_in before) j t store).ending
    unfolding step_called
    went = rw read (stepped_outcome (scheduler_in before) j (moved_of (scheduler_in before) j t store) (moved_of (scheduler_in before) j t store).ending)

    pub goes_told : (e : Option A.Answer) (v old : Told)
        → e ≡ (rows_moved g ws ks ps ms j (part_of j store) t).ending → v ≡ told_by (outcome_of e) old
        → v ≡ told_by (step_called (scheduler_in before) j t b store).outcome old
    goes_told e v old ending tells =
        tells ∙ ap (λ (x : Option A.Answer). told_by (outcome_of x) old) (ending ∙ ap (λ (m : M.Moved). m.ending) as_moved) ∙ sym (ap (λ (o : O.Outcome). told_by o old) went)

    module _ (m : M.Moved) (em : m ≡ rows_moved g ws ks ps ms j (part_of j store) t) where
      pub goes_left : (ws' ks' ps' ms' : List (List ℕ)) → ws' ≡ set ws j m.job.words → ks' ≡ set ks j (kind_row m.job)
          → ps' ≡ places_after m j ks ps → ms' ≡ marks_after m j ks ms
          → held ws' ks' ps' ms' secret size nas_ip nas_id label ≡ step_left before j t b store
      goes_left ws' ks' ps' ms' ew ek ep eq =
          rw (ew, ek, ep, eq) (by_ending m m.ending refl)
          ∙ ap (λ (x : M.Moved). left_by (outcome_of x.ending) j x.job before) (em ∙ as_moved)
          ∙ ap (λ (o : O.Outcome). left_by o j (moved_of (scheduler_in before) j t store).job before) (sym went)

      pub goes_reply : (u : List ℕ) → u ≡ reply_after g.secret (part_of j store) b m.ending → u ≡ step_reply (scheduler_in before) j t b store
      unfolding step_reply
      goes_reply u e =
          e ∙ ap (λ (v : M.Moved). reply_after g.secret (part_of j store) b v.ending) (em ∙ as_moved) ∙ rw (read, eg)

    pub goes_table : (u : List ℕ) → u ≡ moved_table g (job_at (jobs_in (length g.secret) ws ks ps ms) j) (part_of j store) t
        → u ≡ step_table (scheduler_in before) j t b store
    unfolding step_table
    goes_table u e = e ∙ rw (read, long, eg)
