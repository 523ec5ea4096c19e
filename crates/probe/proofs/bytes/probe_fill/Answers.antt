-- `probe::bytes::probe_fill` meets its contract: refused where the bytes do not lie in the run.
use borrow.Author.Rules.{rules}
use Rattle.probe_laws.proofs.Answers.{refused, keeps, done, writes, lies, lies_fits}
use Rattle.probe.proofs.bytes.probe_fill.Goals as goal

pub fill-requires : goal.fill-requires
fill-requires c = search (rules, lies_fits)

pub returns-then-lies_in-clause-value : goal.returns-then-lies_in-clause-value
returns-then-lies_in-clause-value c = search (rules, done, lies)

pub returns-then-lies_in-clause-t_after : goal.returns-then-lies_in-clause-t_after
returns-then-lies_in-clause-t_after c = search (rules, writes, lies)

pub returns-clause-value : goal.returns-clause-value
returns-clause-value c = search (rules, refused, lies)

pub returns-clause-t_after : goal.returns-clause-t_after
returns-clause-t_after c = search (rules, keeps, lies)
