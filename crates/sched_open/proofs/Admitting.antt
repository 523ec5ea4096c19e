-- Opening: R5 and R6 in their order, then D1 to D3, which all leave everything as it was; else the lowest free job gets the packet's Length bytes.
-- Assumes nothing.
use mathlib.Core.Path.{◌≡◌, ◌∙◌}
use mathlib.Core.List.{List}
use Prim.Native.Nat.{ℕ, ◌+◌, ◌*◌}
use Rattle.std.specs.Prelude.{Some, None}
use Rattle.refusals.specs.declared.Refusal.{Refusal}
use Rattle.refusals.specs.declared.Discard.{Discard}
use Rattle.refusals.specs.Numbers.{refusal_number, discard_number}
use lib.ListN.{length, take, set}
use Rattle.octet_numbers.specs.Runs.{write}
use Rattle.packet_form.specs.Packet.{length_of}
use Rattle.packet_form.specs.Discards.{form_of}
use Rattle.sched_job.specs.Job.{first_job}
use Rattle.sched_state.specs.Scheduler.{open_at, lowest_free}
use Rattle.sched_state.specs.Refusals.{open_refusal}
use Rattle.sched_state.specs.Calls.{open_called, open_store}
use Rattle.sched_rows.specs.Layout.{Held, held, kind_row, place_row, secret_in, jobs_in, scheduler_in}
use Rattle.sched_rows.specs.Left.{left_by, open_left}
use Rattle.sched_open.specs.Chosen.{Given}
use Rattle.c_numbers.specs.Numbers.{answer_told}
use Rattle.c_told.specs.Told.{number_by, place_by, told_by}

module _ (ws ks ps ms : List (List ℕ)) (secret : List ℕ) (size nas_ip : ℕ) (nas_id : List ℕ) (label : ℕ) (p : List ℕ) (clock : ℕ) (store : List ℕ)
    (z : ℕ) (read : z ≡ secret_in size) where
  abbrev before : Held
  before = held ws ks ps ms secret size nas_ip nas_id label

  module _ (r : Refusal) (x : open_refusal (open_at (jobs_in z ws ks ps ms)) (length store) ≡ Some r) where
    refuses : open_refusal (open_at (scheduler_in before).jobs) (length store) ≡ Some r
    refuses = rw (← read) x

    pub refused_number : (v : ℕ) → v ≡ refusal_number r → v ≡ number_by (open_called (scheduler_in before) p clock store).outcome
    unfolding open_called number_by told_by answer_told
    refused_number v e = rw (refuses, e)

    pub refused_left : (ws' ks' ps' ms' : List (List ℕ)) → ws' ≡ ws → ks' ≡ ks → ps' ≡ ps → ms' ≡ ms
        → held ws' ks' ps' ms' secret size nas_ip nas_id label ≡ open_left before p clock store
    unfolding open_called left_by
    refused_left ws' ks' ps' ms' ew ek ep em = rw (ew, ek, ep, em, refuses)

    pub refused_store : store ≡ open_store (scheduler_in before) p store
    unfolding open_store
    refused_store = rw refuses

    pub refused_place : (old : ℕ) → old ≡ place_by (open_called (scheduler_in before) p clock store).outcome old
    unfolding open_called place_by
    refused_place old = rw refuses

  module _ (j : ℕ) (x : Given (open_at (jobs_in z ws ks ps ms)) (length store) j) where
    none : open_refusal (open_at (scheduler_in before).jobs) (length store) ≡ None
    none = rw (← read) x.none

    the_lowest : j ≡ lowest_free (open_at (scheduler_in before).jobs)
    the_lowest = x.lowest ∙ rw read

    module _ (d : Discard) (bad : form_of p ≡ Some d) where
      pub discarded_number : (v : ℕ) → v ≡ discard_number d → 100 + v ≡ number_by (open_called (scheduler_in before) p clock store).outcome
      unfolding open_called number_by told_by answer_told
      discarded_number v e = rw (none, bad, e)

      pub discarded_left : (ws' ks' ps' ms' : List (List ℕ)) → ws' ≡ ws → ks' ≡ ks → ps' ≡ ps → ms' ≡ ms
          → held ws' ks' ps' ms' secret size nas_ip nas_id label ≡ open_left before p clock store
      unfolding open_called left_by
      discarded_left ws' ks' ps' ms' ew ek ep em = rw (ew, ek, ep, em, none, bad)

      pub discarded_store : store ≡ open_store (scheduler_in before) p store
      unfolding open_store
      discarded_store = rw (none, bad)

      pub discarded_place : (old : ℕ) → old ≡ place_by (open_called (scheduler_in before) p clock store).outcome old
      unfolding open_called place_by
      discarded_place old = rw (none, bad)

    module _ (good : form_of p ≡ None) where
      pub opened_number : 0 ≡ number_by (open_called (scheduler_in before) p clock store).outcome
      unfolding open_called number_by told_by answer_told
      opened_number = rw (none, good)

      pub opened-place : (old v : ℕ) → v ≡ j → v ≡ place_by (open_called (scheduler_in before) p clock store).outcome old
      unfolding open_called place_by
      opened-place old v e = rw (none, good, ← the_lowest, e)

      module _ (q : List ℕ) (whole : q ≡ p) where
        pub opened_store : (after : List ℕ) → after ≡ write store (j * 4096) (take (length_of q) q) → after ≡ open_store (scheduler_in before) p store
        unfolding open_store
        opened_store after e = rw (none, good, ← the_lowest, e, whole)

        pub opened_left : (ws' ks' ps' ms' : List (List ℕ)) → ws' ≡ set ws j (first_job (length_of q) clock).words
            → ks' ≡ set ks j (kind_row (first_job (length_of q) clock)) → ps' ≡ set ps j (place_row (first_job (length_of q) clock))
            → ms' ≡ set ms j (first_job (length_of q) clock).marks
            → held ws' ks' ps' ms' secret size nas_ip nas_id label ≡ open_left before p clock store
        unfolding open_called left_by
        opened_left ws' ks' ps' ms' ew ek ep em = rw (none, good, ← the_lowest, ew, ek, ep, em, whole)
