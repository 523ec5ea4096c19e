-- `md5_digest::update` meets its contract: the piece stays in the buffer, or it ends the block and the rest is handled where no block is begun.
use borrow.Author.Rules.{rules}
use Rattle.md5_digest.proofs.Pieces.{held_here, held_short, held_across}
use Rattle.md5_digest.proofs.update.Goals as goal

pub returns-then-f-eq0 : goal.returns-then-f-eq0
returns-then-f-eq0 c = search (rules, held_here)

pub returns-then-s-j : goal.returns-then-s-j
returns-then-s-j c = search (rules, held_short)

pub returns : goal.returns
returns c = search (rules, held_across)
