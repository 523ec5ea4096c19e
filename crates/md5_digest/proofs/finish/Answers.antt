-- `md5_digest::finish` meets its contract: the padding is written into the buffer, which is then the last block or the last but one.
use borrow.Author.Rules.{rules}
use Rattle.md5_digest.proofs.Endings.{one_block, two_blocks}
use Rattle.md5_digest.proofs.finish.Goals as goal

pub returns-then-f-lt56 : goal.returns-then-f-lt56
returns-then-f-lt56 c = search (rules, one_block)

pub returns : goal.returns
returns c = λ m held. two_blocks _ m _ _ held (search rules) _ _ _ _ _ _ c.put_first.ensures c.fill.ensures c.blocks-r.ensures c.put_end-2.ensures (search rules) c.blocks-2.ensures c.bytes_of-2.ensures
