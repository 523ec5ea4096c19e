-- A bound on the steps that the open jobs may still take: each job what its stage leaves (66 blocks, Check, 64 slots, Commit), and for each two
-- open jobs 64 more, since one of the two finishes first and may send the other back to slot 0. With four jobs that is 4 · 132 + 64 · 6 = 912.
-- Assumes nothing.
use mathlib.Core.Path.{◌≡◌, refl}
use mathlib.Core.Bool.{Bool, true, false, false≢true}
use mathlib.Core.List.{List, [], ◌∷◌, map}
use Prim.Native.Nat.{ℕ, zero, suc, ◌+◌, ◌*◌, ◌-◌, ◌≤◌, ◌<◌}
use native.Mathlib.Omega.{arith}
use lib.ListN.{length, set}
use Rattle.sched_job.specs.declared.Job as B
use Rattle.sched_job.specs.declared.Stage as S
use Rattle.sched_job.specs.declared.Stage.TheVariants.{Free, Hash, Check, Match}
use Rattle.sched_job.specs.Job.{is_open, restarted_at, restarted}
use Rattle.sched_state.specs.Scheduler.{job_at, open_at}
use Rattle.thm_serial.proofs.Invariant.{restarted_open, open_below}

-- the steps that a job at a stage may still take, if nothing sends it back
abbrev pub left : S.Stage → ℕ
left Free = 0
left (Hash k) = 67 + (65 - k)
left Check = 66
left (Match k) = 1 + (64 - k)

abbrev pub one : Bool → ℕ
one true = 1
one false = 0

abbrev pub opens : S.Stage → ℕ
opens x = one (is_open x)

unfoldable pub total : (S.Stage → ℕ) → List B.Job → ℕ
total f [] = 0
total f (x ∷ js) = f x.stage + total f js

-- how many pairs m jobs make
unfoldable pub pairs : ℕ → ℕ
pairs zero = 0
pairs (suc m) = m + pairs m

unfoldable pub potential : List B.Job → ℕ
potential js = total left js + 64 * pairs (total opens js)

-- ---- sums over the jobs

pub total_set : (f : S.Stage → ℕ) (js : List B.Job) (j : ℕ) (x : B.Job) → j < length js
    → total f (set js j x) + f (job_at js j).stage ≡ total f js + f x.stage
unfolding total
total_set f [] j x h = absurd (omega arith)
total_set f (y ∷ js) zero x h = omega arith
total_set f (y ∷ js) (suc j) x h = omega (arith, total_set f js j x (omega arith))

pub total_job : (f : S.Stage → ℕ) (js : List B.Job) (j : ℕ) → j < length js → f (job_at js j).stage ≤ total f js
unfolding total
total_job f [] j h = absurd (omega arith)
total_job f (y ∷ js) zero h = omega arith
total_job f (y ∷ js) (suc j) h = omega (arith, total_job f js j (omega arith))

total_most : (f : S.Stage → ℕ) (n : ℕ) → ((x : S.Stage) → f x ≤ n) → (js : List B.Job) → total f js ≤ n * length js
unfolding total
total_most f n h [] = omega arith
total_most f n h (x ∷ js) = omega (arith, h x.stage, total_most f n h js)

-- ---- sent back to slot 0

back_left : (x : S.Stage) (j : B.Job) → j.stage ≡ x → left (restarted_at x j).stage ≤ left x + 64 * opens x
back_left Free j e = rw e (omega arith)
back_left (Hash k) j e = rw e (omega arith)
back_left Check j e = rw e (omega arith)
back_left (Match k) j e = omega arith

restarted_left : (j : B.Job) → left (restarted j).stage ≤ left j.stage + 64 * opens j.stage
unfolding restarted
restarted_left j = back_left j.stage j refl

pub total_restarted : (js : List B.Job) → total left (map restarted js) ≤ total left js + 64 * total opens js
unfolding total
total_restarted [] = omega arith
total_restarted (x ∷ js) = omega (arith, restarted_left x, total_restarted js)

pub opens_restarted : (js : List B.Job) → total opens (map restarted js) ≡ total opens js
unfolding total
opens_restarted [] = refl
opens_restarted (x ∷ js) = rw (restarted_open x, opens_restarted js)

-- ---- the bound is at most 912

pub pairs_more : (m n : ℕ) → n ≡ suc m → pairs n ≡ m + pairs m
unfolding pairs
pairs_more m n e = rw e

pairs_most : (m : ℕ) → m ≤ 4 → pairs m ≤ 6
unfolding pairs
pairs_most zero h = omega arith
pairs_most (suc zero) h = omega arith
pairs_most (suc (suc zero)) h = omega arith
pairs_most (suc (suc (suc zero))) h = omega arith
pairs_most (suc (suc (suc (suc zero)))) h = omega arith
pairs_most (suc (suc (suc (suc (suc m))))) h = absurd (omega arith)

pub left_most : (x : S.Stage) → left x ≤ 132
left_most Free = omega arith
left_most (Hash k) = omega arith
left_most Check = omega arith
left_most (Match k) = omega arith

one_most : (b : Bool) → one b ≤ 1
one_most true = omega arith
one_most false = omega arith

pub opens_most : (x : S.Stage) → opens x ≤ 1
opens_most x = one_most (is_open x)

pub potential_most : (js : List B.Job) → length js ≡ 4 → potential js ≤ 912
unfolding potential
potential_most js e =
    let c : total opens js ≤ 4 = omega (arith, total_most opens 1 opens_most js) in
    omega (arith, total_most left 132 left_most js, pairs_most (total opens js) c)

-- ---- where no step is left, no job is open

pub open_left_lem : (x : S.Stage) → is_open x ≡ true → 0 < left x
open_left_lem Free h = absurd (false≢true h)
open_left_lem (Hash k) h = omega arith
open_left_lem Check h = omega arith
open_left_lem (Match k) h = omega arith

by_open : (js : List B.Job) (j : ℕ) (f : Bool) → open_at js j ≡ f → potential js ≤ 0 → f ≡ false
unfolding open_at potential
by_open js j false e h = refl
by_open js j true e h = absurd (omega (arith, total_job left js j (open_below js j e), open_left_lem (job_at js j).stage e))

pub all_finished : (js : List B.Job) → potential js ≤ 0 → (j : ℕ) → open_at js j ≡ false
all_finished js h j = by_open js j (open_at js j) refl h
