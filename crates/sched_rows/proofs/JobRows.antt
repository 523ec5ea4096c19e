-- Jobs in rows: reading row j reads job j; the rows of a job of ours, written and read back, are that job, and every other job stays as it was.
-- Assumes nothing.
use mathlib.Core.List.{List, [], ◌∷◌}
use mathlib.Core.Path.{◌≡◌, refl, sym, ◌∙◌}
use Prim.Native.Nat.{ℕ, zero, suc, ◌+◌, ◌<◌}
use native.Mathlib.Omega.{arith}
use borrow.Author.Tests.{lt-ltb, le-leb}
use lib.ListN.{length, get_or, set}
use lib.Seq.{get_or-set_same, get_or-set_other}
use Rattle.packet_blocks.specs.Block.{block_count}
use Rattle.sched_job.specs.declared.Job as B
use Rattle.sched_job.specs.declared.Stage as S
use Rattle.sched_job.specs.declared.Stage.TheVariants.{Free, Hash, Check, Match}
use Rattle.sched_job.specs.Job.{Placed, JobOurs}
use Rattle.sched_state.specs.Scheduler.{job_at}
use Rattle.sched_rows.specs.Layout.{kind_of, place_of, block_in, stage_in, job_in, kind_row, place_row, job_of, four, jobs_in}

-- ---- lists of four

four_at : (f : ℕ → B.Job) (j : ℕ) → j < 4 → job_at (four f) j ≡ f j
four_at f zero h = refl
four_at f (suc zero) h = refl
four_at f (suc (suc zero)) h = refl
four_at f (suc (suc (suc zero))) h = refl
four_at f (suc (suc (suc (suc j)))) h = absurd (omega arith)

module _ (f g : ℕ → B.Job) (x : B.Job) where
  pub four-set : (j : ℕ) → j < 4 → ((i : ℕ) → (i ≡ j → ⊥) → g i ≡ f i) → g j ≡ x → four g ≡ set (four f) j x
  four-set zero h o e = λ i. e i ∷ o 1 (λ n. omega (arith, n)) i ∷ o 2 (λ n. omega (arith, n)) i ∷ o 3 (λ n. omega (arith, n)) i ∷ []
  four-set (suc zero) h o e = λ i. o 0 (λ n. omega (arith, n)) i ∷ e i ∷ o 2 (λ n. omega (arith, n)) i ∷ o 3 (λ n. omega (arith, n)) i ∷ []
  four-set (suc (suc zero)) h o e = λ i. o 0 (λ n. omega (arith, n)) i ∷ o 1 (λ n. omega (arith, n)) i ∷ e i ∷ o 3 (λ n. omega (arith, n)) i ∷ []
  four-set (suc (suc (suc zero))) h o e = λ i. o 0 (λ n. omega (arith, n)) i ∷ o 1 (λ n. omega (arith, n)) i ∷ o 2 (λ n. omega (arith, n)) i ∷ e i ∷ []
  four-set (suc (suc (suc (suc j)))) h o e = absurd (omega arith)

-- ---- a job read

module _ (z : ℕ) (ws ks ps ms : List (List ℕ)) (j : ℕ) (below : j < 4) where
  pub at : job_at (jobs_in z ws ks ps ms) j ≡ job_of z ws ks ps ms j
  unfolding jobs_in
  at = four_at (job_of z ws ks ps ms) j below

  pub job_read : (s : S.Stage) → s ≡ stage_in z (get_or (get_or ks j []) 0 0) (get_or (get_or ps j []) 0 0) (get_or (get_or ps j []) 1 0)
      → ◌≡◌ {A = B.Job} (record { stage = s; words = get_or ws j []; marks = get_or ms j []; length = get_or (get_or ps j []) 1 0; clock = get_or (get_or ks j []) 1 0 }) (job_at (jobs_in z ws ks ps ms) j)
  unfolding job_of
  job_read s e = (λ i. record { stage = e i; words = get_or ws j []; marks = get_or ms j []; length = get_or (get_or ps j []) 1 0; clock = get_or (get_or ks j []) 1 0 }) ∙ sym at

-- ---- a job written

stage_back : (z : ℕ) (s : S.Stage) (n : ℕ) → Placed z s n → stage_in z (kind_of s) (place_of s) n ≡ s
unfolding stage_in block_in
stage_back z Free n h = refl
stage_back z (Hash k) n h = rw (le-leb 20 n h.0, le-leb n 4096 h.1, lt-ltb k (block_count (n + z)) h.2)
stage_back z Check n h = refl
stage_back z (Match k) n h = refl

pub job_back : (z : ℕ) (b : B.Job) → JobOurs z b → job_in z b.words (kind_row b) (place_row b) b.marks ≡ b
job_back z b h = λ i. record { stage = stage_back z b.stage b.length h i; words = b.words; marks = b.marks; length = b.length; clock = b.clock }

pub row_same : (l : List (List ℕ)) (j : ℕ) (x : List ℕ) → length l ≡ 4 → j < 4 → get_or (set l j x) j [] ≡ x
row_same l j x e h = get_or-set_same l j x [] (omega (arith, e, h))

module _ (z : ℕ) (ws ks ps ms : List (List ℕ)) (j : ℕ) (b : B.Job) where
  pub put_in : length ws ≡ 4 → length ks ≡ 4 → length ps ≡ 4 → length ms ≡ 4 → j < 4 → JobOurs z b
      → jobs_in z (set ws j b.words) (set ks j (kind_row b)) (set ps j (place_row b)) (set ms j b.marks) ≡ set (jobs_in z ws ks ps ms) j b
  unfolding jobs_in job_of
  put_in lw lk lp lm below fits =
      four-set (job_of z ws ks ps ms) (job_of z (set ws j b.words) (set ks j (kind_row b)) (set ps j (place_row b)) (set ms j b.marks)) b j below
      (λ i n. rw (get_or-set_other ws j i b.words [] n, get_or-set_other ks j i (kind_row b) [] n, get_or-set_other ps j i (place_row b) [] n, get_or-set_other ms j i b.marks [] n))
      (rw (row_same ws j b.words lw below, row_same ks j (kind_row b) lk below, row_same ps j (place_row b) lp below, row_same ms j b.marks lm below) (job_back z b fits))

-- ---- the code's rows

pub put_kinds : (ks : List (List ℕ)) (j k : ℕ) (b : B.Job) → k ≡ kind_of b.stage → set ks j (k ∷ b.clock ∷ []) ≡ set ks j (kind_row b)
put_kinds ks j k b e = rw e

pub put_places : (ps : List (List ℕ)) (j p : ℕ) (b : B.Job) → p ≡ place_of b.stage → set ps j (p ∷ b.length ∷ []) ≡ set ps j (place_row b)
put_places ps j p b e = rw e
