-- `table_records::put_text` meets its contract: length, value and zeros go one after the other.
use Rattle.table_records.proofs.Fields.{kept_low, kept_short, kept_fits, zeros_fit, text-written}
use borrow.Author.Rules.{rules}
use Rattle.table_records.proofs.put_text.Goals as goal

pub overflow_cast-t : goal.overflow_cast-t
overflow_cast-t c = search (rules, kept_low)

pub copy-requires : goal.copy-requires
copy-requires c = search (rules, kept_fits)

pub overflow_sub-cap : goal.overflow_sub-cap
overflow_sub-cap c = search (rules, kept_short)

pub fill-requires : goal.fill-requires
fill-requires c = search (rules, zeros_fit)

pub returns : goal.returns
returns c = search (rules, text-written)
