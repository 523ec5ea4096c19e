-- `probe::numbers::probe_put` meets its contract: refused at another width, past the end or where the number is too large, else all of it is written.
use borrow.Author.Rules.{rules}
use Rattle.probe_laws.proofs.Answers.{refused, keeps, done, writes, lies_room, put_two, put_four, put_large, put_outside, put_other, put_as}
use Rattle.probe.proofs.numbers.probe_put.Goals as goal

pub put_be32-requires : goal.put_be32-requires
put_be32-requires c = search (rules, lies_room)

pub returns-then-width-eq4-clause-value : goal.returns-then-width-eq4-clause-value
returns-then-width-eq4-clause-value c = search (rules, done, put_four)

pub returns-then-width-eq4-clause-t_after : goal.returns-then-width-eq4-clause-t_after
returns-then-width-eq4-clause-t_after c = search (rules, writes, put_four, put_as)

pub returns-then-width-ne2-clause-value : goal.returns-then-width-ne2-clause-value
returns-then-width-ne2-clause-value c = search (rules, refused, put_other)

pub returns-then-width-ne2-clause-t_after : goal.returns-then-width-ne2-clause-t_after
returns-then-width-ne2-clause-t_after c = search (rules, keeps, put_other)

pub put_be16-requires : goal.put_be16-requires
put_be16-requires c = search (rules, lies_room)

pub returns-then-v-lt65536-clause-value : goal.returns-then-v-lt65536-clause-value
returns-then-v-lt65536-clause-value c = search (rules, done, put_two)

pub returns-then-v-lt65536-clause-t_after : goal.returns-then-v-lt65536-clause-t_after
returns-then-v-lt65536-clause-t_after c = search (rules, writes, put_two, put_as)

pub returns-then-lies_in-clause-value : goal.returns-then-lies_in-clause-value
returns-then-lies_in-clause-value c = search (rules, refused, put_large)

pub returns-then-lies_in-clause-t_after : goal.returns-then-lies_in-clause-t_after
returns-then-lies_in-clause-t_after c = search (rules, keeps, put_large)

pub returns-clause-value : goal.returns-clause-value
returns-clause-value c = search (rules, refused, put_outside)

pub returns-clause-t_after : goal.returns-clause-t_after
returns-clause-t_after c = search (rules, keeps, put_outside)
