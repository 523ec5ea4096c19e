-- `table_match::mark_all` meets its contract: the marks are those of the slots passed, and the criteria that are left decide the slot at hand.
use mathlib.Core.Path.{◌≡◌}
use lib.ListN.{drop}
use Rattle.table_slots.specs.Marks.{marks_after}
use Rattle.table_criteria.specs.Meets.{all, listed, meets, matches_at}
use Rattle.table_match.proofs.mark_all.Given as goal

abbrev pub invariant-loop-asked : goal.invariant-loop-asked
invariant-loop-asked l = all (meets l.area l.s) (listed l.c) ≡ all (meets l.area l.s) (listed (drop l.asked-index l.c))

abbrev pub invariant-loop-k : goal.invariant-loop-k
invariant-loop-k l = l.marks ≡ marks_after (matches_at l.area (listed l.c) l.t) l.k
