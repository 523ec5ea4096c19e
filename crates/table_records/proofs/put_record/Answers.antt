-- `table_records::put_record` meets its contract: the texts begin where the numbers end.
use Rattle.table_records.proofs.Chain.{record_written}
use borrow.Author.Rules.{rules}
use Rattle.table_records.proofs.put_record.Goals as goal

pub returns : goal.returns
returns c = search (rules, record_written)
