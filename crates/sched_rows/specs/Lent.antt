-- What is lent for a call, in the words of the layout: the rows of the four jobs, and what the scheduler was made with.
-- Assumes nothing.
use Rattle.std.specs.Prelude.{◌≡◌, cond, List, ℕ, ltb, take, Option, Some, None}
use Rattle.nas_settings.specs.Settings.{Settings, settings}
use Rattle.sched_job.specs.declared.Job as B
use Rattle.sched_rows.specs.declared.Rows.{Rows}
use Rattle.sched_rows.specs.declared.Made.{Made}
use Rattle.sched_rows.specs.Layout.{Held, held, secret_in, nas_id_in, jobs_in}

-- these arrays are what C holds beside what the scheduler was made with
abbrev pub held_with : List (List ℕ) → List (List ℕ) → List (List ℕ) → List (List ℕ) → Made → Held
held_with ws ks ps ms m = held ws ks ps ms m.secret.now m.secret_size m.nas_ip m.nas_id.now m.nas_id_size

abbrev pub held_by : Rows → Made → Held
held_by r m = held_with r.words.now r.kinds.now r.places.now r.marks.now m

-- what the scheduler was made with: settings_of of the scheduler that C holds
abbrev pub settings_in : Made → Settings
settings_in m = settings (take (secret_in m.secret_size) m.secret.now) m.nas_ip (take (nas_id_in m.nas_id_size) m.nas_id.now)

-- the four jobs in the rows
abbrev pub jobs_of : ℕ → Rows → List B.Job
jobs_of size r = jobs_in size r.words.now r.kinds.now r.places.now r.marks.now

-- the rows are still the ones that were lent, whatever is in them
pub record SameRows (r after : Rows) : Type 0 where
  pub words : after.words.ghost_name ≡ r.words.ghost_name
  pub kinds : after.kinds.ghost_name ≡ r.kinds.ghost_name
  pub places : after.places.ghost_name ≡ r.places.ghost_name
  pub marks : after.marks.ghost_name ≡ r.marks.ghost_name

-- the number of a job, of which there are four: none at 4 and above
abbrev pub below_four : ℕ → Option ℕ
below_four n = cond (ltb n 4) (Some n) None
