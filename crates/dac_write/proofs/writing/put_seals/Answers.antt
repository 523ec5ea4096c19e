-- `dac_write::writing::put_seals` meets its contract: the signatures are worked out over sixteen zeros.
use borrow.Author.Rules.{rules}
use Rattle.dac_write.proofs.Requesting.{seals_over}
use Rattle.dac_write.proofs.writing.put_seals.Goals as goal

pub returns : goal.returns
returns c = search (rules, seals_over)
