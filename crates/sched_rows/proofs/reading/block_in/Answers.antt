-- `sched_rows::reading::block_in` meets its contract: a test a return; the sum fits, since the secret has at most 64 bytes.
use borrow.Author.Rules.{rules}
use Rattle.sched_rows.proofs.Ranges.{short_none, long_none, counted}
use Rattle.sched_rows.proofs.reading.block_in.Goals as goal

pub returns-then-n-lt20 : goal.returns-then-n-lt20
returns-then-n-lt20 c = search (rules, short_none)

pub returns-then-n-gt4096 : goal.returns-then-n-gt4096
returns-then-n-gt4096 c = search (rules, long_none)

pub returns : goal.returns
returns c = search (rules, counted)
