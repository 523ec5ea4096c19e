-- What it means that a call on the scheduler and the serial execution agree: they give the same answer, and the invariant between them holds again.
-- It does where a call changes nothing, and where it frees a job and strikes its note. Where the table changed, every job past Check was sent back
-- to slot 0, and there the invariant holds under any table.
-- Assumes nothing.
use mathlib.Core.Path.{◌≡◌, refl}
use mathlib.Core.Bool.{Bool, true, false, cond}
use mathlib.Core.List.{List}
use Prim.Native.Nat.{ℕ}
use native.Mathlib.Omega.{arith}
use lib.ListN.{length, set, length-set, length-map}
use Rattle.sched_job.specs.Job.{free_job}
use Rattle.sched_state.specs.declared.Scheduler as D
use Rattle.sched_state.specs.declared.Outcome.{Outcome}
use Rattle.sched_state.specs.Scheduler.{settings_of, open_at, with_job, restart_all}
use Rattle.sched_state.specs.Calls.{called}
use Rattle.sched_state.specs.Runs.{World, Did, did}
use Rattle.thm_serial.specs.Serial.{Note, unnoted, SerialDid, serial_did}
use Rattle.thm_serial.proofs.Invariant.{serial_of, Each, all-restarted, stored, Tied, open_below}

-- the same answer, the invariant again, and the store's length
pub record Agree (n : ℕ) (d : Did) (e : SerialDid) : Type 0 where
  pub out_is : d.out ≡ e.out
  pub notes : List Note
  pub serial_is : e.serial ≡ serial_of d.world notes
  pub tied : Tied d.world notes
  pub size : length d.world.store ≡ n

module _ (s : D.Scheduler) (t store : List ℕ) (ns : List Note) (h : Tied (record { scheduler = s; table = t; store = store }) ns) where
  abbrev pub before : World
  before = record { scheduler = s; table = t; store = store }

  -- a call that changes nothing
  pub unchanged : (o : Outcome) (b : List ℕ) → Agree (length store) (did (called s o) b t store) (serial_did o b (serial_of before ns))
  unchanged o b = record { out_is = refl; notes = ns; serial_is = refl; tied = h; size = refl }

  -- job j freed, its note struck
  pub struck : (j : ℕ) → open_at s.jobs j ≡ true → Each (settings_of s) (set s.jobs j free_job) (set ns j unnoted) store t
  struck j o =
      let l = open_below s.jobs j o in
      stored (settings_of s) s.jobs ns store t j free_job unnoted l (omega (arith, h.count, h.notes)) refl (λ i ne. h.each i)

  -- an ACK sends the others back
  pub after_ack : (f : Bool) (j : ℕ) (u : List ℕ) → open_at s.jobs j ≡ true → (f ≡ false → u ≡ t)
      → Tied (record { scheduler = cond f (restart_all (with_job s j free_job)) (with_job s j free_job); table = u; store = store })
      (set ns j unnoted)
  after_ack true j u o e =
      record {
        made = h.made;
        count = simp (length-map, length-set) h.count;
        notes = simp length-set h.notes;
        each = all-restarted (settings_of s) (set s.jobs j free_job) (set ns j unnoted) store t u (struck j o);
      }
  after_ack false j u o e =
      rw (e refl) record { made = h.made; count = simp length-set h.count; notes = simp length-set h.notes; each = struck j o }

  -- a start and an end send all back
  pub restart-tied : (u : List ℕ) → Tied (record { scheduler = restart_all s; table = u; store = store }) ns
  restart-tied u =
      record { made = h.made; count = simp length-map h.count; notes = h.notes; each = all-restarted (settings_of s) s.jobs ns store t u h.each }
