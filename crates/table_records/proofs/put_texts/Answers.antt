-- `table_records::put_texts` meets its contract: each write begins where the one before ended.
use Rattle.table_records.proofs.Chain.{texts_written}
use Rattle.table_records.proofs.put_texts.Goals as goal

pub returns : goal.returns
returns c = rw (← c.x.view_is) (texts_written _ _ _ _ _ _ _ _ _ _ _ c.put_text.ensures c.put_text-2.ensures c.put_text-3.ensures c.put_text-4.ensures c.fill.ensures)
