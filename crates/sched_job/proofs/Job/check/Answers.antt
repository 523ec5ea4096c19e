-- `Job::check` meets its contract: what the store is judged to be decides the move.
use borrow.Author.Rules.{rules}
use Rattle.sched_job.proofs.Checked.{check_ended, check_passed, ended_reply, passed_reply}
use Rattle.sched_job.proofs.Job.check.Goals as goal

pub returns-in-Err-clause-value : goal.returns-in-Err-clause-value
returns-in-Err-clause-value c = search (rules, check_ended)

pub returns-in-Err-clause-reply_after : goal.returns-in-Err-clause-reply_after
returns-in-Err-clause-reply_after c = search (rules, ended_reply)

pub returns-in-Ok-clause-value : goal.returns-in-Ok-clause-value
returns-in-Ok-clause-value c = search (rules, check_passed)

pub returns-in-Ok-clause-reply_after : goal.returns-in-Ok-clause-reply_after
returns-in-Ok-clause-reply_after c = search (rules, passed_reply)
