-- A scheduler that making does not refuse: four free jobs, one of ours, and what it was made with reads back. The bytes that count are those that were copied over the zeros.
-- Assumes nothing.
use mathlib.Core.Path.{◌≡◌, refl, sym, ap, ◌∙◌}
use mathlib.Core.Bool.{Bool, true, false, cond}
use mathlib.Core.List.{List}
use Prim.Native.Nat.{ℕ, zero, suc, ◌+◌, ◌≤◌}
use native.Mathlib.Omega.{arith}
use lib.ListN.{length, take, replicate, length-replicate}
use Rattle.std.specs.Prelude.{Some, None}
use Rattle.std.proofs.lemmas.Option.{none-some}
use Rattle.refusals.specs.declared.Refusal.TheVariants as R
use Rattle.octet_numbers.specs.Runs.{write}
use Rattle.octet_numbers.proofs.Write.{length-write, take-write}
use Rattle.nas_settings.specs.Settings.{Settings, bad_secret, bad_nas_id}
use Rattle.sched_job.specs.Job.{free_job, JobOurs}
use Rattle.sched_state.specs.Scheduler.{settings_of, job_at, Ours}
use Rattle.sched_state.specs.Refusals.{make_refusal}
use Rattle.sched_state.specs.Making.{made_of}
use Rattle.sched_state.proofs.Sizes.{secret_sized, name_sized}

neither : (a b : Bool) → cond a (Some R.SecretLength) (cond b (Some R.NasIdentifierLength) None) ≡ None → (a ≡ false) × (b ≡ false)
neither true b h = absurd (none-some R.SecretLength (sym h))
neither false true h = absurd (none-some R.NasIdentifierLength (sym h))
neither false false h = (refl, refl)

-- R2 and R3 do not apply
pub good : (g : Settings) → make_refusal g ≡ None → (bad_secret g.secret ≡ false) × (bad_nas_id g.nas_id ≡ false)
unfolding make_refusal
good g h = neither _ _ h

kept : (n : ℕ) (v : List ℕ) → length v ≤ n → take (length v) (write (replicate n 0) 0 v) ≡ v
kept n v h =
    let same : length v ≡ 0 + length v = omega arith in
    ap (λ (k : ℕ). take k (write (replicate n 0) 0 v)) same ∙ take-write (replicate n 0) 0 v (rw (length-replicate {A = ℕ} n 0) (omega arith))

free_each : (n i : ℕ) → JobOurs n (job_at (replicate 4 free_job) i)
free_each n zero = tt
free_each n (suc zero) = tt
free_each n (suc (suc zero)) = tt
free_each n (suc (suc (suc zero))) = tt
free_each n (suc (suc (suc (suc i)))) = tt

pub made_jobs : (g : Settings) → (made_of g).jobs ≡ replicate 4 free_job
unfolding made_of
made_jobs g = refl

pub made_settings : (g : Settings) → make_refusal g ≡ None → settings_of (made_of g) ≡ g
unfolding made_of
made_settings g h =
    let fits = good g h in
    rw (kept 64 g.secret (secret_sized g.secret fits.0).1, kept 32 g.nas_id (name_sized g.nas_id fits.1).1)

pub made_ours : (g : Settings) → make_refusal g ≡ None → Ours (made_of g)
unfolding made_of
made_ours g h =
    let fits = good g h in
    record {
      secret_low = (secret_sized g.secret fits.0).0;
      secret_high = (secret_sized g.secret fits.0).1;
      name_low = (name_sized g.nas_id fits.1).0;
      name_high = (name_sized g.nas_id fits.1).1;
      secret_room = length-write (replicate 64 0) 0 g.secret ∙ length-replicate {A = ℕ} 64 0;
      name_room = length-write (replicate 32 0) 0 g.nas_id ∙ length-replicate {A = ℕ} 32 0;
      four = refl;
      each = free_each (length g.secret);
    }
