-- `table_change::alter_slot` meets its contract: each field written in the table is that field written in the slot.
use Rattle.table_change.proofs.Alter.{altered_in}
use Rattle.table_change.proofs.alter_slot.Goals as goal

pub returns : goal.returns
returns c = altered_in _ _ _ _ _ _ _ _ _ c.requires c.set_number.ensures c.set_number-2.ensures c.set_text.ensures c.set_number-3.ensures c.set_number-4.ensures
