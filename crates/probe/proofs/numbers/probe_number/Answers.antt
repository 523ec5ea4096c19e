-- `probe::numbers::probe_number` meets its contract: refused at another width or past the end, else the number is read.
use borrow.Author.Rules.{rules}
use Rattle.probe_laws.proofs.Answers.{refused, keeps, done, writes, lies_room, number_two, number_four, number_other, number_outside, read_as}
use Rattle.probe.proofs.numbers.probe_number.Goals as goal

pub be16-requires : goal.be16-requires
be16-requires c = search (rules, lies_room)

pub returns-then-width-eq2-clause-value : goal.returns-then-width-eq2-clause-value
returns-then-width-eq2-clause-value c = search (rules, done, number_two)

pub returns-then-width-eq2-clause-value_after : goal.returns-then-width-eq2-clause-value_after
returns-then-width-eq2-clause-value_after c = search (rules, writes, number_two, read_as)

pub be32-requires : goal.be32-requires
be32-requires c = search (rules, lies_room)

pub returns-then-width-eq4-clause-value : goal.returns-then-width-eq4-clause-value
returns-then-width-eq4-clause-value c = search (rules, done, number_four)

pub returns-then-width-eq4-clause-value_after : goal.returns-then-width-eq4-clause-value_after
returns-then-width-eq4-clause-value_after c = search (rules, writes, number_four, read_as)

pub returns-then-lies_in-clause-value : goal.returns-then-lies_in-clause-value
returns-then-lies_in-clause-value c = search (rules, refused, number_other)

pub returns-then-lies_in-clause-value_after : goal.returns-then-lies_in-clause-value_after
returns-then-lies_in-clause-value_after c = search (rules, keeps, number_other)

pub returns-clause-value : goal.returns-clause-value
returns-clause-value c = search (rules, refused, number_outside)

pub returns-clause-value_after : goal.returns-clause-value_after
returns-clause-value_after c = search (rules, keeps, number_outside)
