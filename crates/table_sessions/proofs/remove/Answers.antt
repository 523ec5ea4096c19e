-- `table_sessions::remove` meets its contract: a slot below their number lies in the table.
use Rattle.table_slots.proofs.Count.{slot_lies}
use borrow.Author.Rules.{rules}
use Rattle.table_sessions.proofs.remove.Goals as goal

pub end_slot-requires : goal.end_slot-requires
end_slot-requires c = search (rules, slot_lies)
