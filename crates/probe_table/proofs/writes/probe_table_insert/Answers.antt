-- `probe_table::writes::probe_table_insert` meets its contract: the slot is below 64.
use borrow.Author.Rules.{rules}
use Rattle.probe_table.proofs.Low.{slot_low}
use Rattle.probe_table.proofs.writes.probe_table_insert.Goals as goal

pub overflow_cast-slot : goal.overflow_cast-slot
overflow_cast-slot c = search (rules, slot_low)
