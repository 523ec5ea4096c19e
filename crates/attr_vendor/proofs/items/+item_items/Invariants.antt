-- What is left from here, read with the rates so far, gives the whole answer.
-- The groups that may still be opened grow fewer round the cycle, the bytes left in the loop.
use Rattle.std.proofs.Common.{◌≡◌, ◌+◌, length, ◌-◌}
use Rattle.attr_vendor.specs.Vendor.{group_in, items_from}
use Rattle.attr_vendor.proofs.items.+item_items.Given as goal

abbrev pub decreases-item : goal.decreases-item
decreases-item l = l.left + l.left

abbrev pub decreases-items : goal.decreases-items
decreases-items l = l.left + l.left + 1

abbrev pub invariant-items-loop-a : goal.invariant-items-loop-a
invariant-items-loop-a l = items_from (group_in l.left l.v) l.v l.from l.initial.rates ≡ items_from (group_in l.left l.v) l.v l.at l.rates

abbrev pub decreases-items-loop-a : goal.decreases-items-loop-a
decreases-items-loop-a l = length l.v - l.at
