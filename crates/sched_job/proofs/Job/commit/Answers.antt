-- `Job::commit` meets its contract: the last move of the request as the store shows it now.
use borrow.Author.Rules.{rules}
use Rattle.sched_job.proofs.Committed.{stands_short, stands_fits, commit_move_lem, commit_reply}
use Rattle.sched_job.proofs.Job.commit.Goals as goal

pub commit-requires-clause-fits : goal.commit-requires-clause-fits
commit-requires-clause-fits c = search (rules, stands_fits)

pub commit-requires-clause-short : goal.commit-requires-clause-short
commit-requires-clause-short c = (search (rules, stands_short), search (rules, stands_short))

pub returns-clause-value : goal.returns-clause-value
returns-clause-value c = search (rules, commit_move_lem)

pub returns-clause-reply_after : goal.returns-clause-reply_after
returns-clause-reply_after c = search (rules, commit_reply)
