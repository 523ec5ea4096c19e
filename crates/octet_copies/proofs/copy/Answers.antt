-- `octet_copies::copy` meets its contract: after k turns the first k words are written, and the rest goes after them.
use borrow.Author.Rules.{rules}
use Rattle.octet_copies.proofs.Loops.{copy_none, word_more, words_rest}
use Rattle.octet_copies.proofs.copy.Goals as goal

pub loop-k-init : goal.loop-k-init
loop-k-init c = search (rules, copy_none)

pub loop-k-preserved : goal.loop-k-preserved
loop-k-preserved c = search (rules, word_more)

pub returns : goal.returns
returns c = search (rules, words_rest)
