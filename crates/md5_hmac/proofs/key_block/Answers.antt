-- `md5_hmac::key_block` meets its contract: after i turns the first i bytes of the key stand over the pad bytes.
use borrow.Author.Rules.{rules}
use Rattle.md5_hmac.proofs.Keys.{key_none, key_byte, key_all}
use Rattle.md5_hmac.proofs.key_block.Goals as goal

pub loop-i-init : goal.loop-i-init
loop-i-init c = search (rules, key_none)

pub loop-i-preserved : goal.loop-i-preserved
loop-i-preserved c = search (rules, key_byte)

pub returns : goal.returns
returns c = search (rules, key_all)
