-- An opened job meets its invariant before the first block: its part of the store holds the packet, and the note has packet and clock.
-- Assumes nothing.
use mathlib.Core.Path.{◌≡◌, refl}
use mathlib.Core.List.{List, []}
use Prim.Native.Nat.{ℕ, ◌+◌, ◌*◌, ◌<◌}
use native.Mathlib.Omega.{arith}
use lib.ListN.{length, take, set, length-set}
use Rattle.std.specs.Prelude.{None}
use Rattle.octet_numbers.specs.Runs.{write}
use Rattle.octet_numbers.proofs.Write.{length-write}
use Rattle.packet_blocks.specs.Block.{block_count}
use Rattle.packet_blocks.proofs.Stepwise.{blocks_none}
use Rattle.packet_form.specs.Packet.{length_of}
use Rattle.packet_form.specs.Discards.{form_of}
use Rattle.sched_job.specs.Job.{first_job}
use Rattle.sched_state.specs.declared.Scheduler as D
use Rattle.sched_state.specs.declared.Outcome.TheVariants as O
use Rattle.sched_state.specs.Scheduler.{settings_of, with_job, part_of}
use Rattle.sched_state.specs.Calls.{called}
use Rattle.sched_state.specs.Runs.{World, did}
use Rattle.thm_serial.specs.Serial.{Note, noted, serial_did, with_note}
use Rattle.thm_serial.proofs.JobInvariant.{Holding}
use Rattle.thm_serial.proofs.Parts.{opened_same, opened_other}
use Rattle.thm_serial.proofs.Invariant.{serial_of, stored, Tied}
use Rattle.thm_serial.proofs.Agreement.{Agree}

-- there is a block to hash
pub some_block : (n : ℕ) → 0 < block_count n
unfolding block_count
some_block n = omega arith

module _ (s : D.Scheduler) (t store : List ℕ) (ns : List Note) (h : Tied (record { scheduler = s; table = t; store = store }) ns) (p : List ℕ)
    (clock : ℕ) where
  abbrev before : World
  before = record { scheduler = s; table = t; store = store }

  abbrev pub room : List ℕ → ℕ → List ℕ
  room l j = write l (j * 4096) (take (length_of p) p)

  first_holds : (j : ℕ) → form_of p ≡ None → j < 4 → length store ≡ 16384
      → Holding (settings_of s) (first_job (length_of p) clock) p clock (part_of j (room store j)) t
  first_holds j e l z =
      record {
        long = refl;
        clock_is = refl;
        same = opened_same p e store j l z;
        good = e;
        place = (some_block (length_of p + length (settings_of s).secret), rw (blocks_none p (length_of p) (settings_of s).secret));
      }

  pub opened : (j : ℕ) → form_of p ≡ None → j < 4 → length store ≡ 16384
      → Agree (length store) (did (called (with_job s j (first_job (length_of p) clock)) (O.Opened j)) [] t (room store j))
      (serial_did (O.Opened j) [] (with_note (serial_of before ns) j (noted p clock)))
  opened j e l z =
      record {
        out_is = refl;
        notes = set ns j (noted p clock);
        serial_is = refl;
        tied = record {
          made = h.made;
          count = simp length-set h.count;
          notes = simp length-set h.notes;
          each =
              stored (settings_of s) s.jobs ns (room store j) t j (first_job (length_of p) clock) (noted p clock) (omega (arith, h.count))
              (omega (arith, h.notes))
              (first_holds j e l z) (λ i ne. rw (opened_other p e store j i ne) (h.each i));
        };
        size = length-write store (j * 4096) (take (length_of p) p);
      }
