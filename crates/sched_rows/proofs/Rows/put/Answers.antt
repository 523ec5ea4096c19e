-- `sched_rows::Rows::put` meets its contract: a store for each row.
use borrow.Author.Rules.{rules}
use Rattle.sched_rows.proofs.JobRows.{put_kinds, put_places}
use Rattle.sched_rows.proofs.Rows.put.Goals as goal

pub returns-clause-kinds_after : goal.returns-clause-kinds_after
returns-clause-kinds_after c = search (rules, put_kinds)

pub returns-clause-places_after : goal.returns-clause-places_after
returns-clause-places_after c = search (rules, put_places)
