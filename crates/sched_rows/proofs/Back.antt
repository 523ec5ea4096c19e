-- What C keeps is the scheduler: reading back what was written changes nothing of a scheduler of ours, since its lengths are inside their limits and the
-- block that a job is to hash is one of its message.
-- Assumes nothing.
use mathlib.Core.List.{List, [], ◌∷◌, map}
use mathlib.Core.Path.{◌≡◌, sym, ap, ◌∙◌}
use Prim.Native.Nat.{ℕ}
use native.Mathlib.Omega.{arith}
use lib.ListN.{length}
use Rattle.sched_job.specs.declared.Job as B
use Rattle.sched_job.specs.Job.{JobOurs}
use Rattle.sched_state.specs.declared.Scheduler as D
use Rattle.sched_state.specs.Scheduler.{Ours, job_at}
use Rattle.sched_rows.specs.Layout.{kind_row, place_row, held_of, job_of, jobs_in, scheduler_in}
use Rattle.sched_rows.proofs.Ranges.{inside}
use Rattle.sched_rows.proofs.JobRows.{job_back}

module _ (z : ℕ) where
  jobs_back : (l : List B.Job) → length l ≡ 4 → ((k : ℕ) → JobOurs z (job_at l k))
      → jobs_in z (map (λ (b : B.Job). b.words) l) (map kind_row l) (map place_row l) (map (λ (b : B.Job). b.marks) l) ≡ l
  unfolding jobs_in job_of
  jobs_back [] e h = absurd (omega (arith, e))
  jobs_back (a ∷ []) e h = absurd (omega (arith, e))
  jobs_back (a ∷ b ∷ []) e h = absurd (omega (arith, e))
  jobs_back (a ∷ b ∷ c ∷ []) e h = absurd (omega (arith, e))
  jobs_back (a ∷ b ∷ c ∷ d ∷ []) e h = λ i. job_back z a (h 0) i ∷ job_back z b (h 1) i ∷ job_back z c (h 2) i ∷ job_back z d (h 3) i ∷ []
  jobs_back (a ∷ b ∷ c ∷ d ∷ x ∷ l) e h = absurd (omega (arith, e))

pub in_out : (s : D.Scheduler) → Ours s → scheduler_in (held_of s) ≡ s
unfolding held_of
in_out s h =
    let size = inside 1 64 s.secret_size h.secret_low h.secret_high in
    let nas_id = inside 1 32 s.nas_id_size h.name_low h.name_high in
    let js = s.jobs in
    let jobs =
    ap (λ (z : ℕ). jobs_in z (map (λ (b : B.Job). b.words) js) (map kind_row js) (map place_row js) (map (λ (b : B.Job). b.marks) js)) (sym size)
    ∙ jobs_back s.secret_size js h.four h.each in
    λ i. record {
      jobs = jobs i;
      secret = s.secret;
      secret_size = sym size i;
      nas_ip = s.nas_ip;
      nas_id = s.nas_id;
      nas_id_size = sym nas_id i;
    }
