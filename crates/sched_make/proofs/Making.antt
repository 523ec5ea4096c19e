-- Making: R2 and R3 in their order, which leave all as it was; else four free jobs, and secret and name over zeros.
-- Assumes nothing.
use mathlib.Core.Path.{◌≡◌}
use mathlib.Core.Bool.{Bool, false}
use mathlib.Core.List.{List}
use Prim.Native.Nat.{ℕ, ◌≤◌}
use lib.ListN.{length, replicate, length-replicate}
use Rattle.octet_numbers.specs.Runs.{write}
use Rattle.octet_numbers.proofs.Write.{write_whole}
use Rattle.std.specs.Prelude.{None}
use Rattle.nas_settings.specs.Settings.{settings, bad_secret, bad_nas_id}
use Rattle.sched_job.specs.Job.{free_job}
use Rattle.sched_state.specs.Refusals.{make_refusal}
use Rattle.sched_state.specs.Making.{made_of}
use Rattle.sched_state.proofs.Sizes.{secret_fits, name_fits}
use Rattle.sched_rows.specs.Layout.{Held, held, held_of, kind_row, place_row}
use Rattle.sched_rows.specs.Left.{make_left}

-- secret and name fit into their arrays
pub secret_room : (secret room : List ℕ) (b : Bool) → b ≡ bad_secret secret → b ≡ false → length room ≡ 64 → length secret ≤ length room
secret_room secret room b is h long = rw long (secret_fits secret b is h)

pub name_room : (nas_id room : List ℕ) (b : Bool) → b ≡ bad_nas_id nas_id → b ≡ false → length room ≡ 32 → length nas_id ≤ length room
name_room nas_id room b is h long = rw long (name_fits nas_id b is h)

pub over_zeros : (l l₁ l₂ s : List ℕ) → l₁ ≡ write l 0 (replicate (length l) 0) → l₂ ≡ write l₁ 0 s → l₂ ≡ write (replicate (length l) 0) 0 s
over_zeros l l₁ l₂ s e₁ e₂ = rw (e₂, e₁, write_whole l (replicate (length l) 0) (length-replicate {A = ℕ} (length l) 0))

pub not_refused : (secret nas_id : List ℕ) (ip : ℕ) (a b : Bool) → a ≡ bad_secret secret → a ≡ false → b ≡ bad_nas_id nas_id → b ≡ false
    → make_refusal (settings secret ip nas_id) ≡ None
unfolding make_refusal
not_refused secret nas_id ip a b is-a good is_b fits = rw (← is-a, good, ← is_b, fits)

pub made_left : (secret nas_id : List ℕ) (ip : ℕ) → make_refusal (settings secret ip nas_id) ≡ None
    → (ws ks ps ms : List (List ℕ)) (kept own : List ℕ) (n₁ n₂ : ℕ) (h : Held)
    → ws ≡ replicate 4 free_job.words → ks ≡ replicate 4 (kind_row free_job) → ps ≡ replicate 4 (place_row free_job)
    → ms ≡ replicate 4 free_job.marks
    → kept ≡ write (replicate n₁ 0) 0 secret → n₁ ≡ 64 → own ≡ write (replicate n₂ 0) 0 nas_id → n₂ ≡ 32
    → held ws ks ps ms kept (length secret) ip own (length nas_id) ≡ make_left (settings secret ip nas_id) h
unfolding make_left held_of made_of
made_left secret nas_id ip t ws ks ps ms kept own n₁ n₂ h ew ek ep em es l₁ en l₂ = rw (t, ew, ek, ep, em, es, l₁, en, l₂)
