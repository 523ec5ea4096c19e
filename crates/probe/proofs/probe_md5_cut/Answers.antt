-- `probe::probe_md5_cut` meets its contract: refused where there is no room or no such pieces, else the digest stands in the whole of it.
use borrow.Author.Rules.{rules}
use Rattle.probe_laws.proofs.Answers.{refused, keeps, done, writes, cut_room, cut_order, cut_long, cut_yes, copied}
use Rattle.md5_ops.proofs.After.{length-md5}
use Rattle.probe.proofs.probe_md5_cut.Goals as goal

pub returns-then-out-ne16-clause-value : goal.returns-then-out-ne16-clause-value
returns-then-out-ne16-clause-value c = search (rules, refused, cut_room)

pub returns-then-out-ne16-clause-out_after : goal.returns-then-out-ne16-clause-out_after
returns-then-out-ne16-clause-out_after c = search (rules, keeps, cut_room)

pub returns-then-b-a-clause-value : goal.returns-then-b-a-clause-value
returns-then-b-a-clause-value c = search (rules, refused, cut_order)

pub returns-then-b-a-clause-out_after : goal.returns-then-b-a-clause-out_after
returns-then-b-a-clause-out_after c = search (rules, keeps, cut_order)

pub returns-then-m-b-clause-value : goal.returns-then-m-b-clause-value
returns-then-m-b-clause-value c = search (rules, refused, cut_long)

pub returns-then-m-b-clause-out_after : goal.returns-then-m-b-clause-out_after
returns-then-m-b-clause-out_after c = search (rules, keeps, cut_long)

pub returns-clause-value : goal.returns-clause-value
returns-clause-value c = search (rules, done, cut_yes)

pub returns-clause-out_after : goal.returns-clause-out_after
returns-clause-out_after c = search (rules, writes, cut_yes, copied, length-md5)
