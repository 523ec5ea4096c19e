-- The invariant between the scheduler and the serial execution: the same settings and table, a note for each open job and for no other, and each
-- open job is at work on the request of its note. A job sent back to slot 0 meets it under any table, since it has no marks yet.
-- Assumes nothing.
use mathlib.Core.Path.{◌≡◌, refl, sym, ap, subst, ◌∙◌, fun_ext}
use mathlib.Core.Bool.{true, false, false≢true}
use mathlib.Core.Logic.{◌≢◌}
use mathlib.Core.List.{List, [], ◌∷◌, map}
use Prim.Native.Nat.{ℕ, zero, suc, ◌≤◌, ◌<◌}
use native.Mathlib.Decide.{ℕ_discrete}
use native.Mathlib.Omega.{arith}
use lib.ListN.{length, get_or, set, get_or-map}
use lib.Seq.{get_or-set_same, get_or-set_other}
use Rattle.table_slots.specs.Marks.{marks_after}
use Rattle.nas_settings.specs.Settings.{Settings, bad_secret, bad_nas_id}
use Rattle.sched_job.specs.declared.Job as B
use Rattle.sched_job.specs.declared.Stage as S
use Rattle.sched_job.specs.declared.Stage.TheVariants.{Free, Hash, Check, Match}
use Rattle.sched_job.specs.Job.{free_job, is_open, restarted_at, restarted}
use Rattle.sched_state.specs.Scheduler.{settings_of, job_at, open_at, part_of}
use Rattle.sched_state.specs.Runs.{World}
use Rattle.thm_serial.specs.Serial.{Note, unnoted, noted, is_noted, note_at, noted_at, Serial}
use Rattle.thm_serial.proofs.JobInvariant.{Place, Holding}

-- a secret and an identity that making does not refuse
pub record Made (g : Settings) : Type 0 where
  pub secret_good : bad_secret g.secret ≡ false
  pub name_good : bad_nas_id g.nas_id ≡ false
  pub short : length g.secret ≤ 64

-- the serial execution beside a scheduler: its settings, its table, and these notes
abbrev pub serial_of : World → List Note → Serial
serial_of w ns = record { settings = settings_of w.scheduler; table = w.table; notes = ns }

-- a job sent back to slot 0 is as open as it was
back_open : (x : S.Stage) (j : B.Job) → j.stage ≡ x → is_open (restarted_at x j).stage ≡ is_open x
back_open Free j e = ap is_open e
back_open (Hash k) j e = ap is_open e
back_open Check j e = ap is_open e
back_open (Match k) j e = refl

pub restarted_open : (j : B.Job) → is_open (restarted j).stage ≡ is_open j.stage
unfolding restarted
restarted_open j = back_open j.stage j refl

module _ (g : Settings) where
  abbrev pub JobTied : B.Job → Note → List ℕ → List ℕ → Type 0
  JobTied j unnoted q t = is_open j.stage ≡ false
  JobTied j (noted p clock) q t = Holding g j p clock q t

  abbrev pub Each : List B.Job → List Note → List ℕ → List ℕ → Type 0
  Each js ns store t = (i : ℕ) → JobTied (job_at js i) (get_or ns i unnoted) (part_of i store) t

  -- ---- a job is open exactly if it is noted

  place_open : (x : S.Stage) (w m p : List ℕ) (clock : ℕ) (t : List ℕ) → Place g x w m p clock t → is_open x ≡ true
  place_open Free w m p clock t h = absurd h
  place_open (Hash k) w m p clock t h = refl
  place_open Check w m p clock t h = refl
  place_open (Match k) w m p clock t h = refl

  pub job_flag : (j : B.Job) (n : Note) (q t : List ℕ) → JobTied j n q t → is_open j.stage ≡ is_noted n
  job_flag j unnoted q t h = h
  job_flag j (noted p clock) q t h = place_open j.stage j.words j.marks p clock t h.place

  pub flags : (js : List B.Job) (ns : List Note) (store t : List ℕ) → Each js ns store t → open_at js ≡ noted_at ns
  unfolding open_at noted_at note_at
  flags js ns store t h = fun_ext (λ i. job_flag (job_at js i) (get_or ns i unnoted) (part_of i store) t (h i))

  -- ---- sent back to slot 0

  back_holds : (x : S.Stage) (j : B.Job) (p : List ℕ) (clock : ℕ) (q t u : List ℕ) → j.stage ≡ x → Holding g j p clock q t
      → Place g x j.words j.marks p clock t
      → Holding g (restarted_at x j) p clock q u
  unfolding marks_after
  back_holds Free j p clock q t u e h i = absurd i
  back_holds (Hash k) j p clock q t u e h i =
      record {
        long = h.long;
        clock_is = h.clock_is;
        same = h.same;
        good = h.good;
        place = subst (λ (x : S.Stage). Place g x j.words j.marks p clock u) (sym e) i;
      }
  back_holds Check j p clock q t u e h i =
      record {
        long = h.long;
        clock_is = h.clock_is;
        same = h.same;
        good = h.good;
        place = subst (λ (x : S.Stage). Place g x j.words j.marks p clock u) (sym e) i;
      }
  back_holds (Match k) j p clock q t u e h i =
      record { long = h.long; clock_is = h.clock_is; same = h.same; good = h.good; place = (i.0, omega arith, refl) }

  restarted_tied : (j : B.Job) (n : Note) (q t u : List ℕ) → JobTied j n q t → JobTied (restarted j) n q u
  unfolding restarted
  restarted_tied j unnoted q t u h = back_open j.stage j refl ∙ h
  restarted_tied j (noted p clock) q t u h = back_holds j.stage j p clock q t u refl h h.place

  pub all-restarted : (js : List B.Job) (ns : List Note) (store t u : List ℕ) → Each js ns store t → Each (map restarted js) ns store u
  unfolding restarted
  all-restarted js ns store t u h i =
      rw (get_or-map restarted js i free_job) (restarted_tied (job_at js i) (get_or ns i unnoted) (part_of i store) t u (h i))

  -- ---- a job and its note stored together

  pub stored : (js : List B.Job) (ns : List Note) (store t : List ℕ) (j : ℕ) (x : B.Job) (n : Note) → j < length js → j < length ns
      → JobTied x n (part_of j store) t
      → ((i : ℕ) → i ≢ j → JobTied (job_at js i) (get_or ns i unnoted) (part_of i store) t) → Each (set js j x) (set ns j n) store t
  stored js ns store t j x n lj ln here rest i = go (ℕ_discrete i j)
    where
      go : Dec (i ≡ j) → JobTied (job_at (set js j x) i) (get_or (set ns j n) i unnoted) (part_of i store) t
      go (yes e) = rw (e, get_or-set_same js j x free_job lj, get_or-set_same ns j n unnoted ln) here
      go (no ne) = rw (get_or-set_other js j i x free_job ne, get_or-set_other ns j i n unnoted ne) (rest i ne)

pub record Tied (w : World) (ns : List Note) : Type 0 where
  pub made : Made (settings_of w.scheduler)
  pub count : length w.scheduler.jobs ≡ 4
  pub notes : length ns ≡ 4
  pub each : Each (settings_of w.scheduler) w.scheduler.jobs ns w.store w.table

-- an open job is one of the list
pub open_below : (js : List B.Job) (j : ℕ) → open_at js j ≡ true → j < length js
unfolding open_at
open_below [] j e = absurd (false≢true e)
open_below (x ∷ js) zero e = omega arith
open_below (x ∷ js) (suc j) e = omega (arith, open_below js j e)
