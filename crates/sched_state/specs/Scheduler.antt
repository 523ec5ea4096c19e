-- The scheduler (document 01's desk): four jobs, what it was made with, and a packet store of 4,096 bytes a job.
-- Assumes nothing.
use Rattle.std.specs.Prelude.{Bool, cond, List, map, ◌≡◌, ℕ, ◌*◌, ◌≤◌, length, take, get_or, set}
use Rattle.octet_numbers.specs.Runs.{part}
use Rattle.nas_settings.specs.Settings.{Settings, settings}
use Rattle.sched_job.specs.declared.Job as B
use Rattle.sched_job.specs.Job.{free_job, is_open, restarted, JobOurs}
use Rattle.sched_state.specs.declared.Scheduler as D

-- what it was made with
abbrev pub settings_of : D.Scheduler → Settings
settings_of s = settings (take s.secret_size s.secret) s.nas_ip (take s.nas_id_size s.nas_id)

-- job number j; any other number is a free one
abbrev pub job_at : List B.Job → ℕ → B.Job
job_at js j = get_or js j free_job

unfoldable pub open_at : List B.Job → ℕ → Bool
open_at js j = is_open (job_at js j).stage

-- the lowest number below 4 that is not open, or 4
unfoldable pub lowest_free : (ℕ → Bool) → ℕ
lowest_free f = cond (f 0) (cond (f 1) (cond (f 2) (cond (f 3) 4 3) 2) 1) 0

-- the same scheduler with other jobs
abbrev pub with_jobs : D.Scheduler → List B.Job → D.Scheduler
with_jobs s js = record { jobs = js; secret = s.secret; secret_size = s.secret_size; nas_ip = s.nas_ip; nas_id = s.nas_id; nas_id_size = s.nas_id_size }

abbrev pub with_job : D.Scheduler → ℕ → B.Job → D.Scheduler
with_job s j b = with_jobs s (set s.jobs j b)

-- every job in Match or awaiting Commit back to slot 0, marks cleared
abbrev pub restart_all : D.Scheduler → D.Scheduler
restart_all s = with_jobs s (map restarted s.jobs)

-- job j's part of the store
abbrev pub part_of : ℕ → List ℕ → List ℕ
part_of j store = part (j * 4096) 4096 store

-- what holds of every scheduler that making and our calls can have produced, whatever was written to table and store between them; all that the calls ask for
pub record Ours (s : D.Scheduler) : Type 0 where
  pub secret_low : 1 ≤ s.secret_size
  pub secret_high : s.secret_size ≤ 64
  pub name_low : 1 ≤ s.nas_id_size
  pub name_high : s.nas_id_size ≤ 32
  pub secret_room : length s.secret ≡ 64
  pub name_room : length s.nas_id ≡ 32
  pub four : length s.jobs ≡ 4
  pub each : (j : ℕ) → JobOurs s.secret_size (job_at s.jobs j)
