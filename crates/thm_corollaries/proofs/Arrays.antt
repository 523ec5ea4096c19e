-- The arrays in which C holds a scheduler read as that scheduler after each change: with a job written to its row, as the scheduler with that job
-- put in its place; with every row sent back to slot 0, as the scheduler with every job restarted. This needs that a job which a call puts there is
-- one that our calls can produce, and it is, since the whole scheduler after the call is.
-- Assumes nothing.
use mathlib.Core.Bool.{Bool, true, false}
use mathlib.Core.List.{List, [], ◌∷◌}
use mathlib.Core.Path.{◌≡◌, refl, sym, ap, ◌∙◌, subst}
use Prim.Native.Nat.{ℕ, zero, suc, ◌≤◌, ◌<◌}
use native.Mathlib.Omega.{arith}
use borrow.Author.Tests.{ltb-true, ltb-false}
use lib.Dec.{ltb}
use lib.ListN.{length, set, length-set, get_or-map}
use lib.Seq.{get_or-set_same}
use Rattle.sched_job.specs.declared.Job as B
use Rattle.sched_job.specs.declared.Stage as S
use Rattle.sched_job.specs.declared.Stage.TheVariants.{Free, Hash, Check, Match}
use Rattle.sched_job.specs.Job.{free_job, restarted, restarted_at, Placed, JobOurs}
use Rattle.sched_state.specs.Scheduler.{with_job, restart_all, Ours}
use Rattle.sched_rows.specs.Layout.{Held, kind_row, place_row, secret_in, jobs_in, scheduler_in}
use Rattle.sched_rows.specs.Left.{put_job, restart_held}
use Rattle.sched_rows.proofs.JobRows.{put_in}
use Rattle.sched_rows.proofs.Restarts.{four_long, all-restarted, length_places, length_marks}

-- the arrays have the sizes of C's types
pub record Fits (h : Held) : Type 0 where
  pub words : length h.words ≡ 4
  pub kinds : length h.kinds ≡ 4
  pub places : length h.places ≡ 4
  pub marks : length h.marks ≡ 4
  pub secret : length h.secret ≡ 64
  pub nas_id : length h.nas_id ≡ 32

-- a store past the end changes nothing
set_past : {A : Type 0} (l : List A) (j : ℕ) (x : A) → length l ≤ j → set l j x ≡ l
set_past [] j x h = refl
set_past (y ∷ l) zero x h = absurd (omega arith)
set_past (y ∷ l) (suc j) x h = λ i. y ∷ set_past l j x (omega arith) i

-- a job is ours if it is when restarted
unrestarted : (n : ℕ) (g : S.Stage) (b : B.Job) → b.stage ≡ g → Placed n (restarted_at g b).stage (restarted_at g b).length → Placed n g b.length
unrestarted n Free b e h = tt
unrestarted n (Hash k) b e h = rw e at h
unrestarted n Check b e h = tt
unrestarted n (Match k) b e h = tt

module _ (h : Held) (f : Fits h) where
  pub fits_put : (j : ℕ) (b : B.Job) → Fits (put_job h j b)
  fits_put j b =
      record {
        words = length-set h.words j _ ∙ f.words;
        kinds = length-set h.kinds j _ ∙ f.kinds;
        places = length-set h.places j _ ∙ f.places;
        marks = length-set h.marks j _ ∙ f.marks;
        secret = f.secret;
        nas_id = f.nas_id;
      }

  pub fits_again : Fits (restart_held h)
  fits_again =
      record {
        words = f.words;
        kinds = f.kinds;
        places = length_places h.kinds h.places ∙ f.places;
        marks = length_marks h.kinds h.marks ∙ f.marks;
        secret = f.secret;
        nas_id = f.nas_id;
      }

  pub again_reads : scheduler_in (restart_held h) ≡ restart_all (scheduler_in h)
  again_reads = rw (all-restarted (secret_in h.secret_size) h.words h.kinds h.places h.marks f.places f.marks)

  module _ (j : ℕ) (b : B.Job) where
    -- the job that was put is one of ours, also where all were restarted after it
    pub put_ours : Ours (with_job (scheduler_in h) j b) → j < 4 → JobOurs (secret_in h.secret_size) b
    unfolding jobs_in
    put_ours o l = subst (JobOurs (secret_in h.secret_size)) (get_or-set_same (scheduler_in h).jobs j b free_job (omega (arith, l))) (o.each j)

    pub again_ours : Ours (restart_all (with_job (scheduler_in h) j b)) → j < 4 → JobOurs (secret_in h.secret_size) b
    unfolding jobs_in restarted
    again_ours o l =
        let same = get_or-set_same (scheduler_in h).jobs j b free_job (omega (arith, l)) in
        let e = get_or-map restarted (set (scheduler_in h).jobs j b) j free_job ∙ ap restarted same in
        unrestarted (secret_in h.secret_size) b.stage b refl (subst (JobOurs (secret_in h.secret_size)) e (o.each j))

    module _ (fits : j < 4 → JobOurs (secret_in h.secret_size) b) where
      by_place : (p : Bool) → ltb j 4 ≡ p
          → jobs_in (secret_in h.secret_size) (put_job h j b).words (put_job h j b).kinds (put_job h j b).places (put_job h j b).marks
          ≡ set (scheduler_in h).jobs j b
      by_place true e =
          let l = ltb-true j 4 e in
          put_in (secret_in h.secret_size) h.words h.kinds h.places h.marks j b f.words f.kinds f.places f.marks l (fits l)
      by_place false e =
          let past : 4 ≤ j = ltb-false j 4 e in
          rw (
            set_past h.words j b.words (omega (arith, past, f.words)),
            set_past h.kinds j (kind_row b) (omega (arith, past, f.kinds)),
            set_past h.places j (place_row b) (omega (arith, past, f.places)),
            set_past h.marks j b.marks (omega (arith, past, f.marks)),
          )
          (sym (set_past (scheduler_in h).jobs j b (omega (arith, past, four_long (secret_in h.secret_size) h.words h.kinds h.places h.marks))))

      pub put_reads : scheduler_in (put_job h j b) ≡ with_job (scheduler_in h) j b
      put_reads = rw (by_place (ltb j 4) refl)
