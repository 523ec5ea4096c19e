-- A step agrees with the serial execution. One that goes on changes its job alone, which keeps its invariant; one that finishes ends with what
-- handling the noted packet whole gives, frees the job, and where it changed the table sends every other job past Check back to slot 0.
-- Assumes nothing.
use mathlib.Core.Path.{◌≡◌, refl, sym, ap, ◌∙◌}
use mathlib.Core.Bool.{Bool, true, false, cond, false≢true}
use mathlib.Core.List.{List}
use Prim.Native.Nat.{ℕ}
use native.Mathlib.Omega.{arith}
use lib.ListN.{length, get_or, set, length-set}
use lib.Seq.{set-get_or}
use Rattle.std.specs.Prelude.{Option, Some, None, is_none}
use Rattle.refusals.specs.declared.Refusal.{Refusal}
use Rattle.das_answer.specs.declared.Answer as A
use Rattle.das_answer.specs.Replies.{reply_as}
use Rattle.sched_job.specs.declared.Job as B
use Rattle.sched_job.specs.declared.Moved as M
use Rattle.sched_job.specs.Moves.{moved_table, reply_after}
use Rattle.sched_state.specs.declared.Scheduler as D
use Rattle.sched_state.specs.declared.Outcome.TheVariants as O
use Rattle.sched_state.specs.Scheduler.{settings_of, job_at, open_at, with_job, restart_all, part_of}
use Rattle.sched_state.specs.Refusals.{step_refusal}
use Rattle.sched_state.specs.Calls.{called, unless_refused, is_ack, stepped_as, moved_of, step_called, step_table, step_reply}
use Rattle.sched_state.specs.Runs.{Step, World, Did, did, call}
use Rattle.thm_serial.specs.Serial.{Note, unnoted, noted, note_at, SerialDid, serial_did, serial_unless_refused, handled, serial_step, serial_call}
use Rattle.thm_serial.specs.Demand3.{finished}
use Rattle.thm_serial.proofs.JobInvariant.{Ended, Finished}
use Rattle.thm_serial.proofs.Moves.{move_right}
use Rattle.thm_serial.proofs.Invariant.{serial_of, JobTied, flags, stored, Tied, open_below}
use Rattle.thm_serial.proofs.Refusals.{step_admitted, handling_admitted}
use Rattle.thm_serial.proofs.Agreement.{Agree, unchanged, after_ack}

module _ (s : D.Scheduler) (t store : List ℕ) (ns : List Note) (h : Tied (record { scheduler = s; table = t; store = store }) ns) where
  abbrev before : World
  before = record { scheduler = s; table = t; store = store }

  -- what scheduler and serial execution do after the move of a job, by whether it is finished
  abbrev done-of : ℕ → List ℕ → List ℕ → B.Job → Option A.Answer → Did
  done-of j b u x e = did (stepped_as s j (record { job = x; ending = e }) e) (reply_after (settings_of s).secret (part_of j store) b e) u store

  abbrev told_of : Note → ℕ → List ℕ → Bool → SerialDid
  told_of n j b f = cond f (handled n j b (serial_of before ns)) (serial_did O.Going b (serial_of before ns))

  finish_agrees : (f : Bool) (p : List ℕ) (clock j : ℕ) (b u : List ℕ) (x : B.Job) (a : A.Answer) → is_ack a ≡ f → open_at s.jobs j ≡ true
      → Finished (settings_of s) p clock (part_of j store) t b x u a
      → Agree (length store) (did (called (cond f (restart_all (with_job s j x)) (with_job s j x)) (O.Done a))
      (reply_as (settings_of s).secret (part_of j store) b a) u store)
      (told_of (noted p clock) j b true)
  finish_agrees true p clock j b u x a e o k =
      record {
        out_is = rw (k.answer, k.reply);
        notes = set ns j unnoted;
        serial_is = rw k.table;
        tied = rw k.freed (after_ack s t store ns h true j u o (λ z. k.kept (e ∙ z)));
        size = refl;
      }
  finish_agrees false p clock j b u x a e o k =
      record {
        out_is = rw (k.answer, k.reply);
        notes = set ns j unnoted;
        serial_is = rw k.table;
        tied = rw k.freed (after_ack s t store ns h false j u o (λ z. k.kept (e ∙ z)));
        size = refl;
      }

  put_agrees : (p : List ℕ) (clock j : ℕ) (b u : List ℕ) (x : B.Job) (e : Option A.Answer) → get_or ns j unnoted ≡ noted p clock
      → open_at s.jobs j ≡ true
      → Ended (settings_of s) p clock (part_of j store) t b x u e
      → Agree (length store) (done-of j b u x e) (told_of (noted p clock) j b (finished (done-of j b u x e).out))
  put_agrees p clock j b u x None i o k =
      let l = open_below s.jobs j o in
      let same : set ns j (noted p clock) ≡ ns = ap (set ns j) (sym i) ∙ set-get_or ns j unnoted in
      record {
        out_is = refl;
        notes = ns;
        serial_is = rw k.kept;
        tied = rw k.kept record {
          made = h.made;
          count = simp length-set h.count;
          notes = h.notes;
          each =
              rw same at (stored (settings_of s) s.jobs ns store t j x (noted p clock) l (omega (arith, h.count, h.notes)) k.holding
              (λ i ne. h.each i));
        };
        size = refl;
      }
  put_agrees p clock j b u x (Some a) i o k = finish_agrees (is_ack a) p clock j b u x a refl o k

  -- ---- the call

  abbrev moving : ℕ → M.Moved
  moving j = moved_of s j t store

  abbrev table_of : ℕ → List ℕ
  table_of j = moved_table (settings_of s) (job_at s.jobs j) (part_of j store) t

  by_note : (n : Note) (j : ℕ) (b : List ℕ) → get_or ns j unnoted ≡ n → JobTied (settings_of s) (job_at s.jobs j) n (part_of j store) t
      → step_refusal (open_at s.jobs) (length store) j t b ≡ None
      → Agree (length store) (done-of j b (table_of j) (moving j).job (moving j).ending)
      (told_of n j b (finished (done-of j b (table_of j) (moving j).job (moving j).ending).out))
  unfolding open_at
  by_note unnoted j b i k r = let a = step_admitted (open_at s.jobs) (length store) j t b r in absurd (false≢true (sym k ∙ a.open_is))
  by_note (noted p clock) j b i k r =
      let a = step_admitted (open_at s.jobs) (length store) j t b r in
      put_agrees p clock j b (table_of j) (moving j).job (moving j).ending i a.open_is
      (move_right (settings_of s) p clock (part_of j store) t b (handling_admitted (settings_of s) (open_at s.jobs) (length store) j t b h.made a)
      (job_at s.jobs j) k)

  module _ (j : ℕ) (b : List ℕ) where
    abbrev refusal : Option Refusal
    refusal = step_refusal (open_at s.jobs) (length store) j t b

    abbrev did_of : Option Refusal → Did
    did_of f =
        did (unless_refused s f (stepped_as s j (moving j) (moving j).ending))
        (cond (is_none f) (reply_after (settings_of s).secret (part_of j store) b (moving j).ending) b)
        (cond (is_none f) (table_of j) t) store

    by_refusal : (f : Option Refusal) → refusal ≡ f
        → Agree (length store) (did_of f)
        (serial_unless_refused b (serial_of before ns) f (told_of (get_or ns j unnoted) j b (finished (did_of f).out)))
    by_refusal None e = by_note (get_or ns j unnoted) j b refl (h.each j) e
    by_refusal (Some r) e = unchanged s t store ns h (O.Refused r) b

    pub step_agrees : Agree (length store) (call (Step j b) before)
        (serial_call (Step j b) (finished (call (Step j b) before).out) (length store) (serial_of before ns))
    unfolding call serial_call step_called step_table step_reply serial_step note_at
    step_agrees = rw (← (flags (settings_of s) s.jobs ns store t h.each)) (by_refusal refusal refl)
