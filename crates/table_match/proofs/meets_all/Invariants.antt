-- `table_match::meets_all` meets its contract: the criteria that are left decide.
use mathlib.Core.Path.{◌≡◌}
use lib.ListN.{drop}
use Rattle.table_criteria.specs.Meets.{all, listed, meets}
use Rattle.table_match.proofs.meets_all.Given as goal

abbrev pub invariant-loop-asked : goal.invariant-loop-asked
invariant-loop-asked l = all (meets l.area l.s) (listed l.c) ≡ all (meets l.area l.s) (listed (drop l.asked-index l.c))
