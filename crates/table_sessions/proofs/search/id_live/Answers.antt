-- `table_sessions::search::id_live` meets its contract: none of the slots passed has the Acct-Session-Id.
use Rattle.table_sessions.proofs.Free.{id_none, id_found, id_next}
use borrow.Author.Rules.{rules}
use Rattle.table_sessions.proofs.search.id_live.Goals as goal

pub loop-i-init : goal.loop-i-init
loop-i-init c = search (rules, id_none)

pub returns-then-has_id : goal.returns-then-has_id
returns-then-has_id c = search (rules, id_found)

pub loop-i-preserved : goal.loop-i-preserved
loop-i-preserved c = search (rules, id_next)
