-- `sched_move::match_or_commit` meets its contract: Match below the number of slots, else Commit.
use borrow.Author.Rules.{rules}
use Rattle.sched_job.proofs.Checked.{going_reply}
use Rattle.sched_job.proofs.Committed.{stands_once}
use Rattle.sched_move.proofs.Slotted.{slot_here, match_here, match_table, commit_here, commit_table_lem}
use Rattle.sched_move.proofs.match_or_commit.Goals as goal

pub match_slot-requires-clause-k_bound : goal.match_slot-requires-clause-k_bound
match_slot-requires-clause-k_bound c = search (rules, slot_here)

pub match_slot-requires-clause-once : goal.match_slot-requires-clause-once
match_slot-requires-clause-once c = search (rules, stands_once)

pub returns-then-k-slot_count-clause-value : goal.returns-then-k-slot_count-clause-value
returns-then-k-slot_count-clause-value c = search (rules, match_here)

pub returns-then-k-slot_count-clause-t_after : goal.returns-then-k-slot_count-clause-t_after
returns-then-k-slot_count-clause-t_after c = search (rules, match_table)

pub returns-then-k-slot_count-clause-reply_after : goal.returns-then-k-slot_count-clause-reply_after
returns-then-k-slot_count-clause-reply_after c = search (rules, going_reply)

pub returns-clause-value : goal.returns-clause-value
returns-clause-value c = search (rules, commit_here)

pub returns-clause-t_after : goal.returns-clause-t_after
returns-clause-t_after c = search (rules, commit_table_lem)
