-- `sched_job::Job::match_slot` meets its contract: there is a mark for each of at most 64 slots.
use borrow.Author.Rules.{rules}
use native.Mathlib.Omega.{arith}
use Rattle.sched_job.proofs.Examined.{slot_below}
use Rattle.sched_job.proofs.Job.match_slot.Goals as goal

pub overflow_add-next : goal.overflow_add-next
overflow_add-next c = let below = slot_below _ _ c.requires.k_bound in omega arith

pub bounds-marks-k : goal.bounds-marks-k
bounds-marks-k c = search (rules, slot_below)
