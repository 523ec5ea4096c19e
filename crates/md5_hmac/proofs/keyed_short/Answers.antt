-- `md5_hmac::keyed_short` meets its contract: the key's block is one block.
use borrow.Author.Rules.{rules}
use Rattle.md5_hmac.proofs.Runs.{keyed_block}
use Rattle.md5_hmac.proofs.keyed_short.Goals as goal

pub returns : goal.returns
returns c = search (rules, keyed_block)
