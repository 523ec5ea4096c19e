-- `octet_copies::copy_bytes` meets its contract: after j turns the first j bytes are written.
use borrow.Author.Rules.{rules}
use Rattle.octet_copies.proofs.Loops.{copy_none, copy_byte, copy_all}
use Rattle.octet_copies.proofs.copy_bytes.Goals as goal

pub loop-j-init : goal.loop-j-init
loop-j-init c = search (rules, copy_none)

pub loop-j-preserved : goal.loop-j-preserved
loop-j-preserved c = search (rules, copy_byte)

pub returns : goal.returns
returns c = search (rules, copy_all)
