-- `md5_blocks::block` meets its contract: the operations on the sums are those of the definition on the block, and the words as they were are added.
use borrow.Author.Rules.{rules}
use Rattle.md5_ops.proofs.Chain.{in_block}
use Rattle.md5_blocks.proofs.block.Goals as goal

pub returns : goal.returns
returns c = search (rules, in_block)
