-- A slot and a count go into 32 bits: a table has at most 64 slots.
-- Assumes nothing.
use mathlib.Core.Path.{◌≡◌, sym, ◌∙◌}
use mathlib.Core.List.{List}
use Prim.Native.Nat.{ℕ, ◌^◌, ◌<◌}
use native.Mathlib.Omega.{arith}
use Rattle.std.specs.Prelude.{Result, Ok}
use Rattle.refusals.specs.declared.Refusal.{Refusal}
use Rattle.table_slots.specs.Slot.{slot_count}
use Rattle.table_slots.proofs.Count.{counted}
use Rattle.table_slots.proofs.Marked.{count_most}
use Rattle.table_records.specs.Record.{Session}
use Rattle.table_change.specs.Change.{marked, count_marked}
use Rattle.table_sessions.specs.Session.{insert_answer}
use Rattle.table_sessions.proofs.Free.{free_most}
use Rattle.table_sessions.proofs.Starts.{started}

pub slots_low : (n : ℕ) (t : List ℕ) → n ≡ slot_count t → n < 2 ^ 32
slots_low n t e = let c = counted t in rw e (omega arith)

pub count_low : (n : ℕ) (marks t : List ℕ) → n ≡ count_marked marks (slot_count t) t → n < 2 ^ 32
unfolding count_marked
count_low n marks t e = let c = counted t in rw e (omega (arith, count_most (marked marks t) (slot_count t)))

pub slot_low : (r : Result ℕ Refusal) (x : Session) (t : List ℕ) (k : ℕ) → r ≡ insert_answer x t → r ≡ Ok k → k < 2 ^ 32
slot_low r x t k e h =
    let s = started x t k (sym e ∙ h) in
    let c = counted t in
    rw s.lowest (omega (arith, free_most t 0 (slot_count t)))
