-- `items` goes on after a good item: what is left from the next place, read with the rates that then hold, gives the whole answer.
use Rattle.attr_vendor.proofs.Turns.{items_on}
use Rattle.attr_vendor.proofs.items.+item_items.Goals as goal

pub items-loop-a-preserved : goal.items-loop-a-preserved
items-loop-a-preserved t c =
    items_on _ _ _ _ _ _ c.loop-a.invariant c.step_at.ensures _ _ _ _ c.in-Found.is c.item.ensures c.in_ok-rates-in-Found.was
