-- `sched_rows::reading::stage_in` meets its contract: a kind a return.
use borrow.Author.Rules.{rules}
use Rattle.sched_rows.proofs.Ranges.{hash_in, hash_out, check_in, match_in, free_in}
use Rattle.sched_rows.proofs.reading.stage_in.Goals as goal

pub returns-then-block_in : goal.returns-then-block_in
returns-then-block_in c = search (rules, hash_in)

pub returns-then-kind-eq1 : goal.returns-then-kind-eq1
returns-then-kind-eq1 c = search (rules, hash_out)

pub returns-then-kind-eq2 : goal.returns-then-kind-eq2
returns-then-kind-eq2 c = search (rules, check_in)

pub returns-then-kind-eq3 : goal.returns-then-kind-eq3
returns-then-kind-eq3 c = search (rules, match_in)

pub returns : goal.returns
returns c = search (rules, free_in)
