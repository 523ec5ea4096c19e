-- A lone job is finished by its 132nd step: no other job is open that could send it back to slot 0, so the steps that its stage leaves are all that
-- it takes.
-- Assumes nothing.
use mathlib.Core.Path.{◌≡◌, refl}
use mathlib.Core.Bool.{true, false, true≢false}
use mathlib.Core.Logic.{◌≢◌}
use mathlib.Core.List.{List, [], ◌∷◌}
use Prim.Native.Nat.{ℕ, zero, suc, ◌≤◌}
use native.Mathlib.Omega.{arith}
use Rattle.sched_job.specs.declared.Job as B
use Rattle.sched_job.specs.declared.Stage as S
use Rattle.sched_job.specs.declared.Stage.TheVariants.{Free, Hash, Check, Match}
use Rattle.sched_job.specs.Job.{is_open}
use Rattle.sched_state.specs.declared.Scheduler as D
use Rattle.sched_state.specs.Scheduler.{open_at}
use Rattle.sched_state.specs.Runs.{Call, run}
use Rattle.thm_serial.specs.Demand3.{quiet, steps_taken, world, later, New}
use Rattle.thm_serial.proofs.Potential.{left, opens, total, pairs, potential, left_most, opens_most, all_finished}
use Rattle.thm_serial.proofs.Whole.{whole}
use Rattle.thm_serial.proofs.StepBound.{run_spent}

-- ---- sums over jobs of which only one is open

module _ (f : S.Stage → ℕ) (nought : (x : S.Stage) → is_open x ≡ false → f x ≡ 0) where
  total_none : (js : List B.Job) → ((i : ℕ) → open_at js i ≡ false) → total f js ≡ 0
  unfolding total open_at
  total_none [] h = refl
  total_none (x ∷ js) h = omega (arith, nought x.stage (h 0), total_none js (λ i. h (suc i)))

  total_lone : (n : ℕ) → ((x : S.Stage) → f x ≤ n) → (js : List B.Job) (j : ℕ) → ((i : ℕ) → i ≢ j → open_at js i ≡ false) → total f js ≤ n
  unfolding total open_at
  total_lone n most [] j h = omega arith
  total_lone n most (x ∷ js) zero h = omega (arith, most x.stage, total_none js (λ i. h (suc i) (λ e. omega arith)))
  total_lone n most (x ∷ js) (suc j) h =
      omega (arith, nought x.stage (h 0 (λ e. omega arith)), total_lone n most js j (λ i ne. h (suc i) (λ e. ne (omega arith))))

left_none : (x : S.Stage) → is_open x ≡ false → left x ≡ 0
left_none Free e = refl
left_none (Hash k) e = absurd (true≢false e)
left_none Check e = absurd (true≢false e)
left_none (Match k) e = absurd (true≢false e)

opens_none : (x : S.Stage) → is_open x ≡ false → opens x ≡ 0
opens_none x e = rw e

pairs_none : (m : ℕ) → m ≤ 1 → pairs m ≡ 0
unfolding pairs
pairs_none zero h = refl
pairs_none (suc zero) h = omega arith
pairs_none (suc (suc m)) h = absurd (omega arith)

lone_most : (js : List B.Job) (j : ℕ) → ((i : ℕ) → i ≢ j → open_at js i ≡ false) → potential js ≤ 132
unfolding potential
lone_most js j h =
    omega (arith, total_lone left left_none 132 left_most js j h, pairs_none (total opens js) (total_lone opens opens_none 1 opens_most js j h))

-- after a list of calls that leaves no job open but j
pub lone : (s : D.Scheduler) → New s → (cs ds : List Call) (t store : List ℕ) (j : ℕ)
    → ((i : ℕ) → i ≢ j → open_at (run cs (world s t store)).world.scheduler.jobs i ≡ false)
    → quiet (later s cs ds t store).outs ≡ true → 132 ≤ steps_taken (later s cs ds t store).outs
    → open_at (later s cs ds t store).world.scheduler.jobs j ≡ false
lone s new cs ds t store j h q k =
    let r = whole s new cs t store in
    let after = (run cs (world s t store)).world in
    all_finished (run ds after).world.scheduler.jobs (omega (arith, run_spent ds after r.notes r.tied q, lone_most after.scheduler.jobs j h)) j
