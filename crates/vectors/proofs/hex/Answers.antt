-- `vectors::hex` meets its contract: after i turns the digits of i bytes stand.
use borrow.Author.Rules.{rules}
use Rattle.vectors.proofs.Digits.{hex_none, hex_more, hex_all}
use Rattle.vectors.proofs.hex.Goals as goal

pub loop-i-init : goal.loop-i-init
loop-i-init c = search (rules, hex_none)

pub loop-i-preserved : goal.loop-i-preserved
loop-i-preserved c = search (rules, hex_more)

pub returns : goal.returns
returns c = search (rules, hex_all)
