-- Opening writes only the copied bytes (document 01, "The desk"): every byte before them and after them stays, whatever the store holds, since a
-- write keeps every byte outside its range, and the range is the packet's Length bytes.
-- Assumes nothing.
use mathlib.Core.Path.{◌≡◌, refl}
use mathlib.Core.Bool.{Bool, true, false, cond}
use mathlib.Core.List.{List}
use Prim.Native.Nat.{ℕ, ◌+◌, ◌*◌, ◌≤◌, ◌<◌}
use lib.ListN.{length, get_or, take}
use lib.Seq.{length-take-le}
use Rattle.std.specs.Prelude.{Option, Some, None, is_none}
use Rattle.refusals.specs.declared.Discard.{Discard}
use Rattle.octet_numbers.specs.Runs.{write}
use Rattle.octet_numbers.proofs.Write.{byte_before, byte_after}
use Rattle.packet_form.specs.Packet.{length_of}
use Rattle.packet_form.specs.Discards.{form_of}
use Rattle.packet_form.proofs.Forms.{form_sized}
use Rattle.sched_state.specs.Scheduler.{open_at, lowest_free}
use Rattle.sched_state.specs.Refusals.{open_refusal}
use Rattle.sched_state.specs.Calls.{open_store}
use Rattle.sched_state.specs.Runs.{Open, World, call}

-- ---- opening: x is the job that it takes, i a place of the store before the copied bytes or after them

module _ (p store : List ℕ) (x i : ℕ) where
  before_by : (f d : Bool) → i < x * 4096
      → get_or (cond f (cond d (write store (x * 4096) (take (length_of p) p)) store) store) i 0 ≡ get_or store i 0
  before_by true true h = byte_before store (x * 4096) (take (length_of p) p) i h
  before_by true false h = refl
  before_by false d h = refl

  after_by : (f : Bool) (d : Option Discard) → form_of p ≡ d → x * 4096 + length_of p ≤ i
      → get_or (cond f (cond (is_none d) (write store (x * 4096) (take (length_of p) p)) store) store) i 0 ≡ get_or store i 0
  after_by true None e h =
      let long : length (take (length_of p) p) ≡ length_of p = length-take-le (length_of p) p (form_sized p e).given in
      byte_after store (x * 4096) (take (length_of p) p) i (rw long h)
  after_by true (Some d) e h = refl
  after_by false d e h = refl

module _ (p : List ℕ) (clock : ℕ) (w : World) (i : ℕ) where
  abbrev taken : ℕ
  taken = lowest_free (open_at w.scheduler.jobs)

  abbrev opens : Bool
  opens = is_none (open_refusal (open_at w.scheduler.jobs) (length w.store))

  pub open_before : i < lowest_free (open_at w.scheduler.jobs) * 4096 → get_or (call (Open p clock) w).world.store i 0 ≡ get_or w.store i 0
  unfolding call open_store
  open_before h = before_by p w.store taken i opens (is_none (form_of p)) h

  pub open_after : lowest_free (open_at w.scheduler.jobs) * 4096 + length_of p ≤ i
      → get_or (call (Open p clock) w).world.store i 0 ≡ get_or w.store i 0
  unfolding call open_store
  open_after h = after_by p w.store taken i opens (form_of p) refl h
