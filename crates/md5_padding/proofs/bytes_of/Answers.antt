-- `md5_padding::bytes_of` meets its contract: four words, one after the other, fill the sixteen bytes.
use borrow.Author.Rules.{rules}
use Rattle.md5_padding.proofs.Written.{words_law}
use Rattle.md5_padding.proofs.bytes_of.Goals as goal

pub returns : goal.returns
returns c = search (rules, words_law)
