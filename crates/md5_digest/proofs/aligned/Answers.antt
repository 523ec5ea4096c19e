-- `md5_digest::aligned` meets its contract: whole blocks are hashed, the rest stands in the buffer.
use borrow.Author.Rules.{rules}
use Rattle.md5_digest.proofs.Pieces.{held_aligned}
use Rattle.md5_digest.proofs.aligned.Goals as goal

pub returns : goal.returns
returns c = search (rules, held_aligned)
