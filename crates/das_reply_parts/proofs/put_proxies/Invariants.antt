-- `das_reply_parts::put_proxies` meets its contract: the Proxy-States left from the place on, written from here on, give all of them.
use Prim.Native.Nat.{◌-◌}
use lib.ListN.{length}
use Rattle.das_reply_parts.proofs.Proxies.{Copying}
use Rattle.das_reply_parts.proofs.put_proxies.Given as goal

abbrev pub invariant-loop-a : goal.invariant-loop-a
invariant-loop-a l = Copying l.s l.initial.t l.from l.t l.at l.to

abbrev pub decreases-loop-a : goal.decreases-loop-a
decreases-loop-a l = length l.s - l.at
