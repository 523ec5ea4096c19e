-- `sched_open::chosen` meets its contract: the tests stand in the order of the numbers.
use Rattle.sched_open.proofs.Choosing.{short, free_or_full}
use Rattle.sched_open.proofs.chosen.Goals as goal

pub returns-then-store-ne16384 : goal.returns-then-store-ne16384
returns-then-store-ne16384 c = short _ _ c.if-store-ne16384.true

pub returns : goal.returns
returns c = free_or_full _ _ c.if-store-ne16384.false _ _ c.ok_or.ensures.value c.lowest_free.ensures
