-- A job read from its rows, moved and put back. Whatever the rows are, the job read is one of ours; an ACK sends the jobs past Check back to slot 0, no other answer does.
-- Assumes nothing.
use mathlib.Core.Path.{◌≡◌, ap, ◌∙◌}
use mathlib.Core.Bool.{Bool, true, false}
use mathlib.Core.List.{List}
use Prim.Native.Nat.{ℕ, ◌*◌, ◌<◌}
use native.Mathlib.Omega.{arith}
use lib.ListN.{length, set}
use Rattle.octet_numbers.proofs.Part.{length_part}
use Rattle.nas_settings.specs.Settings.{Settings}
use Rattle.sched_job.specs.declared.Job as B
use Rattle.sched_job.specs.declared.Moved as M
use Rattle.sched_job.specs.Job.{JobOurs}
use Rattle.sched_job.specs.Moves.{moved, moved_table}
use Rattle.sched_state.specs.Scheduler.{job_at, part_of}
use Rattle.sched_rows.specs.Layout.{kind_row, place_row, jobs_in}
use Rattle.sched_rows.specs.Left.{restart_places, restart_marks}
use Rattle.sched_rows.proofs.ReadOurs.{each_ours}
use Rattle.sched_step.specs.Moved.{rows_moved, ack_by, places_after, marks_after}

-- ---- read

module _ (g : Settings) (ws ks ps ms : List (List ℕ)) (j : ℕ) (b : B.Job) (is : b ≡ job_at (jobs_in (length g.secret) ws ks ps ms) j) where
  pub job_fits : JobOurs (length g.secret) b
  job_fits = rw is (each_ours (length g.secret) ws ks ps ms j)

  module _ (q t : List ℕ) where
    pub read_moved : (m : M.Moved) → m ≡ moved g b q t → m ≡ rows_moved g ws ks ps ms j q t
    read_moved m e = e ∙ rw is

    pub read_table : (u : List ℕ) → u ≡ moved_table g b q t → u ≡ moved_table g (job_at (jobs_in (length g.secret) ws ks ps ms) j) q t
    read_table u e = e ∙ rw is

pub part_long : (j : ℕ) (q store : List ℕ) → q ≡ part_of j store → j < 4 → length store ≡ 16384 → length q ≡ 4096
part_long j q store part below long = ap length part ∙ length_part (j * 4096) 4096 store (omega arith)

-- ---- put back

module _ (m : M.Moved) (j : ℕ) (a : Bool) (is : a ≡ ack_by m.ending) (ks ks' : List (List ℕ)) (ek : ks' ≡ set ks j (kind_row m.job)) where
  module _ (ps ps' : List (List ℕ)) (ep : ps' ≡ set ps j (place_row m.job)) where
    pub places_ack : (ps'' : List (List ℕ)) → a ≡ true → ps'' ≡ restart_places ks' ps' → ps'' ≡ places_after m j ks ps
    unfolding places_after
    places_ack ps'' t e = rw (← is, t, e, ek, ep)

    pub places_not : a ≡ false → ps' ≡ places_after m j ks ps
    unfolding places_after
    places_not f = rw (← is, f, ep)

  module _ (ms ms' : List (List ℕ)) (em : ms' ≡ set ms j m.job.marks) where
    pub marks_ack : (ms'' : List (List ℕ)) → a ≡ true → ms'' ≡ restart_marks ks' ms' → ms'' ≡ marks_after m j ks ms
    unfolding marks_after
    marks_ack ms'' t e = rw (← is, t, e, ek, em)

    pub marks_not : a ≡ false → ms' ≡ marks_after m j ks ms
    unfolding marks_after
    marks_not f = rw (← is, f, em)
