-- `md5_hmac::keyed` meets its contract: a key that is too long is hashed first.
use borrow.Author.Rules.{rules}
use Rattle.md5_hmac.proofs.Runs.{keyed_long, keyed_same}
use Rattle.md5_hmac.proofs.keyed.Goals as goal

pub returns-then-key-gt64 : goal.returns-then-key-gt64
returns-then-key-gt64 c = search (rules, keyed_long)

pub returns : goal.returns
returns c = search (rules, keyed_same)
