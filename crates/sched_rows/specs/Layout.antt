-- The scheduler as C holds it: arrays of numbers with a row for each job, and what is fixed when it is made. Reading is total: a job of an unknown kind, and
-- one in Hash whose Length or block is none of a message's, reads as free; a length of secret or NAS-Identifier outside its limits is brought inside.
-- Assumes nothing.
use Rattle.std.specs.Prelude.{Bool, cond, ◌&&◌, List, [], ◌∷◌, map, ℕ, ◌+◌, eqb, ltb, leb, get_or}
use Rattle.packet_blocks.specs.Block.{block_count}
use Rattle.sched_job.specs.declared.Job as B
use Rattle.sched_job.specs.declared.Stage as S
use Rattle.sched_job.specs.declared.Stage.TheVariants.{Free, Hash, Check, Match}
use Rattle.sched_state.specs.declared.Scheduler as D

-- of each job its chaining words, its kind and clock, its place and Length, its marks; and what the scheduler was made with
pub record Held : Type 0 where
  pub words : List (List ℕ)
  pub kinds : List (List ℕ)
  pub places : List (List ℕ)
  pub marks : List (List ℕ)
  pub secret : List ℕ
  pub secret_size : ℕ
  pub nas_ip : ℕ
  pub nas_id : List ℕ
  pub name_size : ℕ

abbrev pub held : List (List ℕ) → List (List ℕ) → List (List ℕ) → List (List ℕ) → List ℕ → ℕ → ℕ → List ℕ → ℕ → Held
held ws ks ps ms secret size nas_ip nas_id label =
    record { words = ws; kinds = ks; places = ps; marks = ms; secret = secret; secret_size = size; nas_ip = nas_ip; nas_id = nas_id; name_size = label }

-- the number of a stage, and its place
abbrev pub kind_of : S.Stage → ℕ
kind_of Free = 0
kind_of (Hash k) = 1
kind_of Check = 2
kind_of (Match k) = 3

abbrev pub place_of : S.Stage → ℕ
place_of Free = 0
place_of (Hash k) = k
place_of Check = 0
place_of (Match k) = k

-- the rows of a job, but for its words and marks, which stand as they are
abbrev pub kind_row : B.Job → List ℕ
kind_row b = kind_of b.stage ∷ b.clock ∷ []

abbrev pub place_row : B.Job → List ℕ
place_row b = place_of b.stage ∷ b.length ∷ []

-- a scheduler written for C
unfoldable pub held_of : D.Scheduler → Held
held_of s =
    held (map (λ (b : B.Job). b.words) s.jobs) (map kind_row s.jobs) (map place_row s.jobs) (map (λ (b : B.Job). b.marks) s.jobs)
    s.secret s.secret_size s.nas_ip s.nas_id s.nas_id_size

-- block `place` of a message of Length n and a secret of `size` bytes is still to hash
unfoldable pub block_in : ℕ → ℕ → ℕ → Bool
block_in size n place = leb 20 n && (leb n 4096 && ltb place (block_count (n + size)))

unfoldable pub stage_in : ℕ → ℕ → ℕ → ℕ → S.Stage
stage_in size kind place n =
    cond (eqb kind 1) (cond (block_in size n place) (Hash place) Free)
    (cond (eqb kind 2) Check
    (cond (eqb kind 3) (Match place)
    Free))

-- a job from its rows, under a secret of `size` bytes
abbrev pub job_in : ℕ → List ℕ → List ℕ → List ℕ → List ℕ → B.Job
job_in size w k p m = record { stage = stage_in size (get_or k 0 0) (get_or p 0 0) (get_or p 1 0); words = w; marks = m; length = get_or p 1 0; clock = get_or k 1 0 }

-- job number j, and the four of them, whatever the arrays are
unfoldable pub job_of : ℕ → List (List ℕ) → List (List ℕ) → List (List ℕ) → List (List ℕ) → ℕ → B.Job
job_of size ws ks ps ms j = job_in size (get_or ws j []) (get_or ks j []) (get_or ps j []) (get_or ms j [])

abbrev pub four : (ℕ → B.Job) → List B.Job
four f = f 0 ∷ f 1 ∷ f 2 ∷ f 3 ∷ []

unfoldable pub jobs_in : ℕ → List (List ℕ) → List (List ℕ) → List (List ℕ) → List (List ℕ) → List B.Job
jobs_in size ws ks ps ms = four (job_of size ws ks ps ms)

-- n brought between low and high
unfoldable pub between : ℕ → ℕ → ℕ → ℕ
between low high n = cond (ltb n low) low (cond (ltb high n) high n)

abbrev pub secret_in : ℕ → ℕ
secret_in n = between 1 64 n

abbrev pub nas_id_in : ℕ → ℕ
nas_id_in n = between 1 32 n

-- the scheduler that C holds
abbrev pub scheduler_in : Held → D.Scheduler
scheduler_in h =
    record {
      jobs = jobs_in (secret_in h.secret_size) h.words h.kinds h.places h.marks;
      secret = h.secret;
      secret_size = secret_in h.secret_size;
      nas_ip = h.nas_ip;
      nas_id = h.nas_id;
      nas_id_size = nas_id_in h.name_size;
    }
