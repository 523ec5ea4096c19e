-- `sched_move::step` meets its contract: each stage is its move.
use borrow.Author.Rules.{rules}
use Rattle.sched_job.proofs.Checked.{going_reply}
use Rattle.sched_move.proofs.Steps.{step_free, step_hash, step_check, step-slot, table_free, table_hash, table_check, table_slot}
use Rattle.sched_move.proofs.Steps.{ours_low, ours_high, ours_given, ours_block, ours_free, ours_hash, ours_check, ours_slot}
use Rattle.sched_move.proofs.step.Goals as goal

pub hash-requires : goal.hash-requires
hash-requires c = (search (rules, ours_low), search (rules, ours_given), search (rules, ours_high), search rules, search (rules, ours_block))

pub returns-in-Free-clause-value : goal.returns-in-Free-clause-value
returns-in-Free-clause-value c = search (rules, step_free)

pub returns-in-Free-clause-t_after : goal.returns-in-Free-clause-t_after
returns-in-Free-clause-t_after c = search (rules, table_free)

pub returns-in-Free-clause-reply_after : goal.returns-in-Free-clause-reply_after
returns-in-Free-clause-reply_after c = search (rules, going_reply)

pub returns-in-Free-clause-job_ours : goal.returns-in-Free-clause-job_ours
returns-in-Free-clause-job_ours c = search (rules, ours_free)

pub returns-in-Hash-clause-value : goal.returns-in-Hash-clause-value
returns-in-Hash-clause-value c = search (rules, step_hash)

pub returns-in-Hash-clause-t_after : goal.returns-in-Hash-clause-t_after
returns-in-Hash-clause-t_after c = search (rules, table_hash)

pub returns-in-Hash-clause-reply_after : goal.returns-in-Hash-clause-reply_after
returns-in-Hash-clause-reply_after c = search (rules, going_reply)

pub returns-in-Hash-clause-job_ours : goal.returns-in-Hash-clause-job_ours
returns-in-Hash-clause-job_ours c = search (rules, ours_hash)

pub returns-in-Check-clause-value : goal.returns-in-Check-clause-value
returns-in-Check-clause-value c = search (rules, step_check)

pub returns-in-Check-clause-t_after : goal.returns-in-Check-clause-t_after
returns-in-Check-clause-t_after c = search (rules, table_check)

pub returns-in-Check-clause-job_ours : goal.returns-in-Check-clause-job_ours
returns-in-Check-clause-job_ours c = search (rules, ours_check)

pub returns-in-Match-clause-value : goal.returns-in-Match-clause-value
returns-in-Match-clause-value c = search (rules, step-slot)

pub returns-in-Match-clause-t_after : goal.returns-in-Match-clause-t_after
returns-in-Match-clause-t_after c = search (rules, table_slot)

pub returns-in-Match-clause-job_ours : goal.returns-in-Match-clause-job_ours
returns-in-Match-clause-job_ours c = search (rules, ours_slot)
