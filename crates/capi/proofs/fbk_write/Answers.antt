-- `capi::fbk_write` meets its contract: the answer of the writer, told in numbers.
use borrow.Author.Rules.{rules}
use Rattle.capi.proofs.Exchanged.{written_fits}
use Rattle.capi.proofs.fbk_write.Goals as goal

pub written_length-requires : goal.written_length-requires
written_length-requires c = search (rules, written_fits)
