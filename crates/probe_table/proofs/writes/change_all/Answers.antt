-- `probe_table::writes::change_all` meets its contract: the marks are handed on whole.
use mathlib.Core.Path.{◌≡◌}
use borrow.Author.Rules.{rules}
use Rattle.probe_table.proofs.Copied.{same_marks}
use Rattle.probe_table.proofs.Low.{count_low}
use Rattle.probe_table.proofs.writes.change_all.Goals as goal

pub overflow_cast-result : goal.overflow_cast-result
overflow_cast-result c = search (rules, count_low)

pub returns-clause-value : goal.returns-clause-value
returns-clause-value c = let e : c.copy.new.t ≡ c.args.marks.now = search (rules, same_marks) in rw (← e) c.change_marked.ensures.value

pub returns-clause-t_after : goal.returns-clause-t_after
returns-clause-t_after c = let e : c.copy.new.t ≡ c.args.marks.now = search (rules, same_marks) in rw (← e) c.change_marked.ensures.t_after
