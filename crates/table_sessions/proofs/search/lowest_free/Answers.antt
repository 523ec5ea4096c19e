-- `table_sessions::search::lowest_free` meets its contract: the slots that are left have the lowest free one of all.
use Rattle.table_sessions.proofs.Free.{free_here, free_next, free_end}
use borrow.Author.Rules.{rules}
use Rattle.table_sessions.proofs.search.lowest_free.Goals as goal

pub returns-then-not-slot_live : goal.returns-then-not-slot_live
returns-then-not-slot_live c = search (rules, free_here)

pub loop-k-preserved : goal.loop-k-preserved
loop-k-preserved c = search (rules, free_next)

pub returns : goal.returns
returns c = search (rules, free_end)
