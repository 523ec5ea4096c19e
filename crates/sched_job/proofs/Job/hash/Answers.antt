-- `Job::hash` meets its contract: on to the next block where there is one, else to Check.
use borrow.Author.Rules.{rules}
use native.Mathlib.Omega.{arith}
use Rattle.sched_job.proofs.Blocks.{blocks_few, hash-on, hash-last}
use Rattle.sched_job.proofs.Job.hash.Goals as goal

pub overflow_add-next : goal.overflow_add-next
overflow_add-next c = let few = blocks_few _ _ _ c.requires.2 c.requires.3 c.requires.4 in omega arith

pub returns-then-next-block_count : goal.returns-then-next-block_count
returns-then-next-block_count c = search (rules, hash-on)

pub returns : goal.returns
returns c = search (rules, hash-last)
