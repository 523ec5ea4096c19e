-- `table_slots::whole_slot` meets its contract: the part taken is the definition's.
use Rattle.table_slots.proofs.Reading.{slot_whole, slot_long}
use borrow.Author.Rules.{rules}
use Rattle.table_slots.proofs.whole_slot.Goals as goal

pub returns : goal.returns
returns c = search (rules, slot_whole, slot_long)
