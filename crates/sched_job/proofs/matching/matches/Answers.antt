-- `sched_job::matching::matches` meets its contract: the criteria that the pass kept are those of the request.
use borrow.Author.Rules.{rules}
use Rattle.sched_job.proofs.Examined.{match_law}
use Rattle.sched_job.proofs.matching.matches.Goals as goal

pub returns : goal.returns
returns c = search (rules, match_law)
