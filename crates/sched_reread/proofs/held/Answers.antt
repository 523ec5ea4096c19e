-- `sched_reread::held` meets its contract: D1 to D3 by the form, then Length.
use Rattle.sched_reread.proofs.Rereading.{holds-length, holds_other, holds_not}
use Rattle.sched_reread.proofs.held.Goals as goal

pub returns-in_default : goal.returns-in_default
returns-in_default c = holds_not _ _ _ c.in_default.ensures

pub returns-then-packet-n : goal.returns-then-packet-n
returns-then-packet-n c = (c.in-Ok.ensures.1, c.in-Ok.ensures.0, holds-length _ _ c.in-Ok.ensures.0 _ c.in-Ok.ensures.1 _ c.in-Ok.packet.sized c.if-packet-n.true)

pub returns : goal.returns
returns c = holds_other _ _ c.in-Ok.ensures.0 _ c.in-Ok.ensures.1 _ c.in-Ok.packet.sized c.if-packet-n.false
