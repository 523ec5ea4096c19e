-- `sched_rows::Rows::job` meets its contract: each number is read at its place in the row, and the stage from them.
use borrow.Author.Rules.{rules}
use Rattle.sched_rows.proofs.JobRows.{job_read}
use Rattle.sched_rows.proofs.Rows.job.Goals as goal

pub returns : goal.returns
returns c = search (rules, job_read)
