-- `packet_blocks::blocks::lay` meets its contract: what of the part the block sees is copied, whether it begins before the block, in it or after it.
use borrow.Author.Rules.{rules}
use Rattle.packet_blocks.proofs.Windows.{part_fits, laid_before, laid_in, laid_after}
use Rattle.packet_blocks.proofs.blocks.lay.Goals as goal

pub copy-requires : goal.copy-requires
copy-requires c = search (rules, part_fits)

pub returns-then-at-s : goal.returns-then-at-s
returns-then-at-s c = search (rules, laid_before)

pub returns-then-i-ge64 : goal.returns-then-i-ge64
returns-then-i-ge64 c = search (rules, laid_after)

pub copy-requires-2 : goal.copy-requires-2
copy-requires-2 c = search (rules, part_fits)

pub returns : goal.returns
returns c = search (rules, laid_in)
