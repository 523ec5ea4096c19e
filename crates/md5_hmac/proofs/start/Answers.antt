-- `md5_hmac::start` meets its contract: the key's block is whole, so the buffer holds nothing.
use borrow.Author.Rules.{rules}
use Rattle.md5_hmac.proofs.Runs.{held_key}
use Rattle.md5_hmac.proofs.start.Goals as goal

pub returns : goal.returns
returns c = search (rules, held_key)
