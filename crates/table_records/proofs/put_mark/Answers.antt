-- `table_records::put_mark` meets its contract: two stores, one after the other, are a write.
use native.Mathlib.Omega.{arith}
use lib.ListN.{length-set}
use Rattle.table_records.proofs.Chain.{mark_written}
use borrow.Author.Rules.{rules}
use Rattle.table_records.proofs.put_mark.Goals as goal

pub bounds-t-at-2 : goal.bounds-t-at-2
bounds-t-at-2 c = simp length-set (omega arith)

pub returns : goal.returns
returns c = search (rules, mark_written)
