-- `sched_rows::Rows::open_at` meets its contract: the job is read, and asked.
use borrow.Author.Rules.{rules}
use Rattle.sched_rows.proofs.Lowest.{open_read}
use Rattle.sched_rows.proofs.Rows.open_at.Goals as goal

pub returns : goal.returns
returns c = search (rules, open_read)
