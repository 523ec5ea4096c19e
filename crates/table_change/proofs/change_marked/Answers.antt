-- `table_change::change_marked` meets its contract: table and count are those of the slots passed.
use Rattle.table_slots.proofs.Count.{counted_is}
use Rattle.table_change.proofs.Turns.{none-changed, none_counted, walk_fits, turn-taken, turn_kept, turn_passed}
use borrow.Author.Rules.{rules}
use native.Mathlib.Omega.{arith}
use Rattle.table_change.proofs.change_marked.Goals as goal
use Rattle.table_change.proofs.change_marked.Goals.{then-is_marked, else-is_marked}

pub loop-k-init : goal.loop-k-init
loop-k-init c = search (rules, none-changed, none_counted)

pub is_marked-requires : goal.is_marked-requires
is_marked-requires c = let n = counted_is _ _ c.slot_count-k-end.ensures in omega arith

pub change_slot-requires : goal.change_slot-requires
change_slot-requires c = let n = counted_is _ _ c.slot_count-k-end.ensures in search (rules, walk_fits)

pub loop-k-preserved : goal.loop-k-preserved
loop-k-preserved c = elim c.if-is_marked.branch [ then-is_marked w ↦ search (rules, turn-taken) | else-is_marked w ↦ search (rules, turn_kept, turn_passed) ]
