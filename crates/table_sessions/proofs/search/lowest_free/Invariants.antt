-- `table_sessions::search::lowest_free` meets its contract: the slots that are left have the lowest free one of all.
use Prim.Native.Nat.{◌-◌}
use mathlib.Core.Path.{◌≡◌}
use Rattle.table_sessions.specs.Session.{free_from}
use Rattle.table_sessions.proofs.search.lowest_free.Given as goal

abbrev pub invariant-loop-k : goal.invariant-loop-k
invariant-loop-k l = free_from l.t 0 l.n ≡ free_from l.t l.k (l.n - l.k)
