-- `table_records::put_numbers` meets its contract: each write begins where the one before ended.
use mathlib.Core.Path.{refl}
use Rattle.table_records.proofs.Chain.{numbers_written}
use Rattle.table_records.proofs.put_numbers.Goals as goal

pub returns : goal.returns
returns c = rw (← c.x.view_is) (numbers_written _ _ _ _ _ _ _ _ _ _ _ _ refl c.put_mark.ensures c.put_be32.ensures c.put_be32-2.ensures c.put_be32-3.ensures c.put_be32-4.ensures)
