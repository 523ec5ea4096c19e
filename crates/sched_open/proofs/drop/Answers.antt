-- `sched_open::drop` meets its contract: R7, or a free job in the place of the open one.
use borrow.Author.Rules.{rules}
use Rattle.sched_open.proofs.Dropping.{above_number, above_left, free_number, free_left, open_number, open_left_lem}
use Rattle.sched_open.proofs.drop.Goals as goal
use Rattle.sched_open.proofs.drop.Goals.{else-j-lt4-via-then-j-lt4+else-open_at, else-j-lt4-via-else-j-lt4}

pub returns-then-open_at-clause-value : goal.returns-then-open_at-clause-value
returns-then-open_at-clause-value c = search (rules, open_number)

pub returns-then-open_at-clause-rows_after : goal.returns-then-open_at-clause-rows_after
returns-then-open_at-clause-rows_after c = search (rules, open_left_lem)

pub returns-clause-value : goal.returns-clause-value
returns-clause-value c =
    elim c.else-j-lt4.branch [
      | else-j-lt4-via-then-j-lt4+else-open_at w ↦ search (rules, free_number)
      | else-j-lt4-via-else-j-lt4 w ↦ search (rules, above_number)
    ]

pub returns-clause-rows_after : goal.returns-clause-rows_after
returns-clause-rows_after c =
    elim c.else-j-lt4.branch [
      | else-j-lt4-via-then-j-lt4+else-open_at w ↦ search (rules, free_left)
      | else-j-lt4-via-else-j-lt4 w ↦ search (rules, above_left)
    ]
