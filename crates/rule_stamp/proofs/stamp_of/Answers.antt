-- `rule_stamp::stamp_of` meets its contract: the pass kept count, length and end of type 55.
use borrow.Author.Rules.{rules}
use Rattle.rule_stamp.proofs.StampKept.{stamp_low, stamp_room, stamp_usable, stamp_size, stamp_count}
use Rattle.rule_stamp.proofs.stamp_of.Goals as goal

pub overflow_sub-end : goal.overflow_sub-end
overflow_sub-end c = search (rules, stamp_low)

pub be32-requires : goal.be32-requires
be32-requires c = search (rules, stamp_room)

pub returns-then-first-eq6 : goal.returns-then-first-eq6
returns-then-first-eq6 c = search (rules, stamp_usable)

pub returns-then-first-eq1 : goal.returns-then-first-eq1
returns-then-first-eq1 c = search (rules, stamp_size)

pub returns : goal.returns
returns c = search (rules, stamp_count)
