-- `octet_copies::copy_word` meets its contract: two writes of four bytes are one of the eight bytes read.
use borrow.Author.Rules.{rules}
use Rattle.octet_copies.proofs.Loops.{store_eight}
use Rattle.octet_copies.proofs.copy_word.Goals as goal

pub returns : goal.returns
returns c = search (rules, store_eight)
