-- `table_sessions::insert` meets its contract: the free slot that is found lies in the table.
use Rattle.table_sessions.proofs.Free.{free_inside}
use borrow.Author.Rules.{rules}
use Rattle.table_sessions.proofs.insert.Goals as goal

pub put_record-requires : goal.put_record-requires
put_record-requires c = search (rules, free_inside)
