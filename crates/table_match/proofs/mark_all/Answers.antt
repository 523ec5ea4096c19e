-- `table_match::mark_all` meets its contract: the marks are those of the slots passed, and the criteria that are left decide the slot at hand.
use Rattle.table_slots.proofs.Count.{counted_is, slot_lies}
use Rattle.table_slots.proofs.Marked.{marks_start}
use Rattle.table_match.proofs.Turns.{turn_free, turn_sieved, turn_fails, turn_dead, turn_meets}
use borrow.Author.Rules.{rules}
use native.Mathlib.Omega.{arith}
use Rattle.table_match.proofs.mark_all.Goals as goal
use Rattle.table_match.proofs.mark_all.Goals.{then-slot, else-slot+then-not-passed}
use Rattle.table_match.proofs.mark_all.Goals.{else-slot+else-not-passed+then-loop-asked-test+in-Some+then-not-meets_one}
use Rattle.table_match.proofs.mark_all.Goals.{else-slot+else-not-passed+else-loop-asked-test+then-is_live}
use Rattle.table_match.proofs.mark_all.Goals.{else-slot+else-not-passed+else-loop-asked-test+else-is_live}

pub loop-k-init : goal.loop-k-init
loop-k-init c = search (rules, marks_start)

pub whole_slot-s-requires : goal.whole_slot-s-requires
whole_slot-s-requires c = slot_lies _ _ _ c.slot_count-k-end.ensures c.loop-k-test.true

pub bounds-marks-k : goal.bounds-marks-k
bounds-marks-k c = let n = counted_is _ _ c.slot_count-k-end.ensures in omega arith

pub loop-k-preserved : goal.loop-k-preserved
loop-k-preserved c =
    elim c.if-slot.branch [
      | then-slot w ↦ search (rules, turn_free)
      | else-slot+then-not-passed w ↦ search (rules, turn_sieved)
      | else-slot+else-not-passed+then-loop-asked-test+in-Some+then-not-meets_one w ↦ search (rules, turn_fails)
      | else-slot+else-not-passed+else-loop-asked-test+then-is_live w ↦ search (rules, turn_meets)
      | else-slot+else-not-passed+else-loop-asked-test+else-is_live w ↦ search (rules, turn_dead)
    ]
