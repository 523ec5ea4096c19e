-- A session start and a session end, each by what the table's own call answered: one that is not refused sends the jobs past Check back to slot 0, one that is
-- refused leaves all as it was. The slot of a start is one of 64.
-- Assumes nothing.
use mathlib.Core.Path.{◌≡◌, sym, ◌∙◌}
use mathlib.Core.List.{List}
use Prim.Native.Nat.{ℕ, ◌<◌}
use native.Mathlib.Omega.{arith}
use Rattle.table_slots.specs.Slot.{slot_count}
use Rattle.table_slots.proofs.Count.{counted}
use Rattle.table_records.specs.Record.{Session}
use Rattle.std.specs.Prelude.{Result, Ok, Err}
use Rattle.refusals.specs.declared.Refusal.{Refusal}
use Rattle.refusals.specs.Numbers.{refusal_number}
use Rattle.table_sessions.specs.Session.{insert_answer, remove_answer}
use Rattle.table_sessions.proofs.Free.{free_most}
use Rattle.table_sessions.proofs.Starts.{started}
use Rattle.sched_state.specs.declared.Scheduler.{Scheduler}
use Rattle.sched_state.specs.Calls.{start_called, end_called}
use Rattle.sched_rows.specs.Layout.{Held, held}
use Rattle.sched_rows.specs.Left.{restart_places, restart_marks, left_by, start_left, end_left}
use Rattle.c_numbers.specs.Numbers.{answer_told}
use Rattle.c_told.specs.Told.{number_by, place_by, told_by}

module _ (x : Session) (t : List ℕ) (r : Result ℕ Refusal) (is : r ≡ insert_answer x t) where
  module _ (k : ℕ) (slot : r ≡ Ok k) where
    pub start_number : (s : Scheduler) → 0 ≡ number_by (start_called s x t).outcome
    unfolding start_called number_by told_by answer_told
    start_number s = rw (← is, slot)

    pub start_slot : (s : Scheduler) (old v : ℕ) → v ≡ k → v ≡ place_by (start_called s x t).outcome old
    unfolding start_called place_by
    start_slot s old v e = rw (← is, slot, e)

    pub slot_small : k < 4294967296
    slot_small = omega (arith, (started x t k (sym is ∙ slot)).lowest, free_most t 0 (slot_count t), (counted t).most)

  module _ (n : Refusal) (refused : r ≡ Err n) where
    pub start_refused : (s : Scheduler) → (v : ℕ) → v ≡ refusal_number n → v ≡ number_by (start_called s x t).outcome
    unfolding start_called number_by told_by answer_told
    start_refused s v e = rw (← is, refused, e)

    pub start_kept : (h : Held) → h ≡ start_left h x t
    unfolding start_called left_by
    start_kept h = rw (← is, refused)

    pub start_same : (s : Scheduler) (old : ℕ) → old ≡ place_by (start_called s x t).outcome old
    unfolding start_called place_by
    start_same s old = rw (← is, refused)

module _ (k : ℕ) (t : List ℕ) (r : Result (Unit {0}) Refusal) (is : r ≡ remove_answer k t) where
  pub end_number : r ≡ Ok tt → (s : Scheduler) → 0 ≡ number_by (end_called s k t).outcome
  unfolding end_called number_by told_by answer_told
  end_number gone s = rw (← is, gone)

  module _ (n : Refusal) (refused : r ≡ Err n) where
    pub end_refused : (s : Scheduler) → (v : ℕ) → v ≡ refusal_number n → v ≡ number_by (end_called s k t).outcome
    unfolding end_called number_by told_by answer_told
    end_refused s v e = rw (← is, refused, e)

    pub end_kept : (h : Held) → h ≡ end_left h k t
    unfolding end_called left_by
    end_kept h = rw (← is, refused)

-- the arrays after it, one by one
module _ (ws ks ps ms ps' ms' : List (List ℕ)) (secret : List ℕ) (size nas_ip : ℕ) (nas_id : List ℕ) (label : ℕ)
    (places : ps' ≡ restart_places ks ps) (marks : ms' ≡ restart_marks ks ms) where
  pub start_left_lem : (x : Session) (t : List ℕ) (r : Result ℕ Refusal) (k : ℕ) → r ≡ insert_answer x t → r ≡ Ok k
      → held ws ks ps' ms' secret size nas_ip nas_id label ≡ start_left (held ws ks ps ms secret size nas_ip nas_id label) x t
  unfolding start_called left_by
  start_left_lem x t r k is slot = rw (← is, slot, places, marks)

  pub end_left_lem : (k : ℕ) (t : List ℕ) (r : Result (Unit {0}) Refusal) → r ≡ remove_answer k t → r ≡ Ok tt
      → held ws ks ps' ms' secret size nas_ip nas_id label ≡ end_left (held ws ks ps ms secret size nas_ip nas_id label) k t
  unfolding end_called left_by
  end_left_lem k t r is gone = rw (← is, gone, places, marks)
