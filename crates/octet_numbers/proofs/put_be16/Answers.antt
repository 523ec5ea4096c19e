-- `octet_numbers::put_be16` meets its contract: the library's bytes of v are the definition's, and the part of t that they were copied over holds them.
use borrow.Author.Rules.{rules}
use Rattle.octet_numbers.specs.Numbers.{be_bytes}
use Rattle.octet_numbers.proofs.Write.{copied_over}
use Rattle.octet_numbers.proofs.put_be16.Goals as goal

pub returns : goal.returns
unfolding be_bytes
returns c = search (rules, copied_over)
