-- `sched_job::done` meets its contract: the job is free.
use borrow.Author.Rules.{rules}
use Rattle.sched_job.proofs.Checked.{freed}
use Rattle.sched_job.proofs.done.Goals as goal

pub returns : goal.returns
returns c = search (rules, freed)
