-- `table_sessions::search::id_live` meets its contract: none of the slots passed has the Acct-Session-Id.
use mathlib.Core.Path.{◌≡◌}
use mathlib.Core.Bool.{false}
use Rattle.table_sessions.specs.Session.{id_live}
use Rattle.table_sessions.proofs.search.id_live.Given as goal

abbrev pub invariant-loop-i : goal.invariant-loop-i
invariant-loop-i l = false ≡ id_live l.id l.t l.i
