-- `probe_table::probe_table_count` meets its contract: the number of slots goes into 32 bits.
use borrow.Author.Rules.{rules}
use Rattle.probe_table.proofs.Low.{slots_low}
use Rattle.probe_table.proofs.probe_table_count.Goals as goal

pub overflow_cast-result : goal.overflow_cast-result
overflow_cast-result c = search (rules, slots_low)
