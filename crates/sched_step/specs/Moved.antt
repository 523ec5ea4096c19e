-- For inner contracts: a job read from its rows and moved, and its rows after that.
-- Assumes nothing.
use Rattle.std.specs.Prelude.{Bool, false, cond, List, ℕ, length, set, Option, Some, None}
use Rattle.nas_settings.specs.Settings.{Settings}
use Rattle.das_answer.specs.declared.Answer.{Answer}
use Rattle.sched_job.specs.declared.Moved as M
use Rattle.sched_job.specs.Moves.{moved}
use Rattle.sched_state.specs.Scheduler.{job_at}
use Rattle.sched_state.specs.Calls.{is_ack}
use Rattle.sched_rows.specs.declared.Rows.{Rows}
use Rattle.sched_rows.specs.Layout.{kind_row, place_row, jobs_in}
use Rattle.sched_rows.specs.Left.{restart_places, restart_marks}

-- job j of these rows, moved by its part q of the store and the table t
abbrev pub rows_moved : Settings → List (List ℕ) → List (List ℕ) → List (List ℕ) → List (List ℕ) → ℕ → List ℕ → List ℕ → M.Moved
rows_moved g ws ks ps ms j q t = moved g (job_at (jobs_in (length g.secret) ws ks ps ms) j) q t

-- the same of rows as they are lent
abbrev pub moved_in : Settings → Rows → ℕ → List ℕ → List ℕ → M.Moved
moved_in g r j q t = rows_moved g r.words.now r.kinds.now r.places.now r.marks.now j q t

-- whether a step ended in ACK
abbrev pub ack_by : Option Answer → Bool
ack_by None = false
ack_by (Some a) = is_ack a

-- the places and the marks after job j was moved: its own, and after an ACK those past Check back to slot 0
unfoldable pub places_after : M.Moved → ℕ → List (List ℕ) → List (List ℕ) → List (List ℕ)
places_after m j ks ps = cond (ack_by m.ending) (restart_places (set ks j (kind_row m.job)) (set ps j (place_row m.job))) (set ps j (place_row m.job))

unfoldable pub marks_after : M.Moved → ℕ → List (List ℕ) → List (List ℕ) → List (List ℕ)
marks_after m j ks ms = cond (ack_by m.ending) (restart_marks (set ks j (kind_row m.job)) (set ms j m.job.marks)) (set ms j m.job.marks)
