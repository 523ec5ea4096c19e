-- Rows back at slot 0: the rows of a job in Match or awaiting Commit, and of no other, are those of the job restarted.
-- Assumes nothing.
use mathlib.Core.Bool.{Bool, true, false, cond}
use mathlib.Core.List.{List, [], ◌∷◌, map}
use mathlib.Core.Path.{◌≡◌, refl, sym, ◌∙◌}
use Prim.Native.Nat.{ℕ, ◌<◌}
use native.Mathlib.Omega.{arith}
use borrow.Author.Tests.{eq-eqb, ne_eqb, eqb-true}
use lib.Dec.{eqb}
use lib.ListN.{length, get_or, set, length-set}
use lib.Seq.{get_or-set_other}
use Rattle.table_slots.specs.Marks.{no_marks}
use Rattle.sched_job.specs.declared.Job as B
use Rattle.sched_job.specs.declared.Stage as S
use Rattle.sched_job.specs.declared.Stage.TheVariants.{Free, Hash, Check}
use Rattle.sched_job.specs.Job.{restarted, restarted_at}
use Rattle.sched_state.specs.Scheduler.{job_at}
use Rattle.sched_rows.specs.Layout.{block_in, stage_in, job_of, jobs_in}
use Rattle.sched_rows.specs.Left.{past_check, restart_place, restart_mark, restart_places, restart_marks}
use Rattle.sched_rows.proofs.JobRows.{four-set, at, row_same}

-- ---- as the code does it

module _ (ks : List (List ℕ)) (j : ℕ) where
  pub place_set : get_or (get_or ks j []) 0 0 ≡ 3 → (ps : List (List ℕ)) → set ps j (0 ∷ get_or (get_or ps j []) 1 0 ∷ []) ≡ restart_place ks j ps
  unfolding restart_place
  place_set e ps = rw (eq-eqb _ 3 e)

  pub mark_set : get_or (get_or ks j []) 0 0 ≡ 3 → (ms : List (List ℕ)) → set ms j no_marks ≡ restart_mark ks j ms
  unfolding restart_mark
  mark_set e ms = rw (eq-eqb _ 3 e)

  pub place-not : (get_or (get_or ks j []) 0 0 ≡ 3 → ⊥) → (ps : List (List ℕ)) → ps ≡ restart_place ks j ps
  unfolding restart_place
  place-not n ps = rw (ne_eqb _ 3 n)

  pub mark_not : (get_or (get_or ks j []) 0 0 ≡ 3 → ⊥) → (ms : List (List ℕ)) → ms ≡ restart_mark ks j ms
  unfolding restart_mark
  mark_not n ms = rw (ne_eqb _ 3 n)

-- ---- and what that is of the jobs

length-place : (ks : List (List ℕ)) (j : ℕ) (ps : List (List ℕ)) → length (restart_place ks j ps) ≡ length ps
unfolding restart_place
length-place ks j ps = either (past_check ks j)
  where
    either : (b : Bool) → length (cond b (set ps j (0 ∷ get_or (get_or ps j []) 1 0 ∷ [])) ps) ≡ length ps
    either true = length-set ps j (0 ∷ get_or (get_or ps j []) 1 0 ∷ [])
    either false = refl

length_mark : (ks : List (List ℕ)) (j : ℕ) (ms : List (List ℕ)) → length (restart_mark ks j ms) ≡ length ms
unfolding restart_mark
length_mark ks j ms = either (past_check ks j)
  where
    either : (b : Bool) → length (cond b (set ms j no_marks) ms) ≡ length ms
    either true = length-set ms j no_marks
    either false = refl

-- a job of another kind than 3 is not restarted
other_stage : (s : S.Stage) (x : B.Job) (one two c : Bool) (place : ℕ) → s ≡ cond one (cond c (Hash place) Free) (cond two Check Free)
    → restarted_at s x ≡ x
other_stage s x true two true place e = rw e
other_stage s x true two false place e = rw e
other_stage s x false true c place e = rw e
other_stage s x false false c place e = rw e

module _ (z : ℕ) (ws ks ps ms : List (List ℕ)) (j : ℕ) (lp : length ps ≡ 4) (lm : length ms ≡ 4) (below : j < 4) where
  abbrev here : B.Job
  here = job_of z ws ks ps ms j

  past : past_check ks j ≡ true → jobs_in z ws ks (set ps j (0 ∷ get_or (get_or ps j []) 1 0 ∷ [])) (set ms j no_marks) ≡ set (jobs_in z ws ks ps ms) j (restarted here)
  unfolding jobs_in job_of restarted stage_in
  past e =
      let three = eqb-true (get_or (get_or ks j []) 0 0) 3 e in
      four-set (job_of z ws ks ps ms) (job_of z ws ks (set ps j (0 ∷ get_or (get_or ps j []) 1 0 ∷ [])) (set ms j no_marks)) (restarted here) j below
      (λ i n. rw (get_or-set_other ps j i (0 ∷ get_or (get_or ps j []) 1 0 ∷ []) [] n, get_or-set_other ms j i no_marks [] n))
      (rw (row_same ps j (0 ∷ get_or (get_or ps j []) 1 0 ∷ []) lp below, row_same ms j no_marks lm below, three))

  not_past : past_check ks j ≡ false → jobs_in z ws ks ps ms ≡ set (jobs_in z ws ks ps ms) j (restarted here)
  unfolding jobs_in job_of restarted stage_in
  not_past e =
      four-set (job_of z ws ks ps ms) (job_of z ws ks ps ms) (restarted here) j below (λ i n. refl)
      (sym (other_stage here.stage here (eqb (get_or (get_or ks j []) 0 0) 1) (eqb (get_or (get_or ks j []) 0 0) 2) (block_in z (get_or (get_or ps j []) 1 0) (get_or (get_or ps j []) 0 0)) (get_or (get_or ps j []) 0 0) (rw e)))

  by_kind : (b : Bool) → past_check ks j ≡ b
      → jobs_in z ws ks (cond b (set ps j (0 ∷ get_or (get_or ps j []) 1 0 ∷ [])) ps) (cond b (set ms j no_marks) ms) ≡ set (jobs_in z ws ks ps ms) j (restarted here)
  by_kind true e = past e
  by_kind false e = not_past e

  one_restarted : jobs_in z ws ks (restart_place ks j ps) (restart_mark ks j ms) ≡ set (jobs_in z ws ks ps ms) j (restarted (job_at (jobs_in z ws ks ps ms) j))
  unfolding restart_place restart_mark
  one_restarted = by_kind (past_check ks j) refl ∙ rw (at z ws ks ps ms j below)

pub four_long : (z : ℕ) (ws ks ps ms : List (List ℕ)) → length (jobs_in z ws ks ps ms) ≡ 4
unfolding jobs_in
four_long z ws ks ps ms = refl

four-restarted : (l : List B.Job) → length l ≡ 4 → (x y u : List B.Job) → x ≡ set l 0 (restarted (job_at l 0)) → y ≡ set x 1 (restarted (job_at x 1))
    → u ≡ set y 2 (restarted (job_at y 2)) → set u 3 (restarted (job_at u 3)) ≡ map restarted l
four-restarted [] e x y u p q r = absurd (omega (arith, e))
four-restarted (a ∷ []) e x y u p q r = absurd (omega (arith, e))
four-restarted (a ∷ b ∷ []) e x y u p q r = absurd (omega (arith, e))
four-restarted (a ∷ b ∷ c ∷ []) e x y u p q r = absurd (omega (arith, e))
four-restarted (a ∷ b ∷ c ∷ d ∷ []) e x y u p q r = rw (r, q, p)
four-restarted (a ∷ b ∷ c ∷ d ∷ v ∷ l) e x y u p q r = absurd (omega (arith, e))

pub all-restarted : (z : ℕ) (ws ks ps ms : List (List ℕ)) → length ps ≡ 4 → length ms ≡ 4
    → jobs_in z ws ks (restart_places ks ps) (restart_marks ks ms) ≡ map restarted (jobs_in z ws ks ps ms)
all-restarted z ws ks ps ms lp lm =
    let p₀ = restart_place ks 0 ps in
    let p₁ = restart_place ks 1 p₀ in
    let p₂ = restart_place ks 2 p₁ in
    let m₀ = restart_mark ks 0 ms in
    let m₁ = restart_mark ks 1 m₀ in
    let m₂ = restart_mark ks 2 m₁ in
    let lp₀ = length-place ks 0 ps ∙ lp in
    let lp₁ = length-place ks 1 p₀ ∙ lp₀ in
    let lp₂ = length-place ks 2 p₁ ∙ lp₁ in
    let lm₀ = length_mark ks 0 ms ∙ lm in
    let lm₁ = length_mark ks 1 m₀ ∙ lm₀ in
    let lm₂ = length_mark ks 2 m₁ ∙ lm₁ in
    one_restarted z ws ks p₂ m₂ 3 lp₂ lm₂ (omega arith)
    ∙ four-restarted (jobs_in z ws ks ps ms) (four_long z ws ks ps ms) (jobs_in z ws ks p₀ m₀) (jobs_in z ws ks p₁ m₁) (jobs_in z ws ks p₂ m₂)
    (one_restarted z ws ks ps ms 0 lp lm (omega arith)) (one_restarted z ws ks p₀ m₀ 1 lp₀ lm₀ (omega arith)) (one_restarted z ws ks p₁ m₁ 2 lp₁ lm₁ (omega arith))

-- ---- as many rows as before

pub length_places : (ks ps : List (List ℕ)) → length (restart_places ks ps) ≡ length ps
length_places ks ps =
    length-place ks 3 (restart_place ks 2 (restart_place ks 1 (restart_place ks 0 ps))) ∙ length-place ks 2 (restart_place ks 1 (restart_place ks 0 ps))
    ∙ length-place ks 1 (restart_place ks 0 ps) ∙ length-place ks 0 ps

pub length_marks : (ks ms : List (List ℕ)) → length (restart_marks ks ms) ≡ length ms
length_marks ks ms =
    length_mark ks 3 (restart_mark ks 2 (restart_mark ks 1 (restart_mark ks 0 ms))) ∙ length_mark ks 2 (restart_mark ks 1 (restart_mark ks 0 ms))
    ∙ length_mark ks 1 (restart_mark ks 0 ms) ∙ length_mark ks 0 ms
