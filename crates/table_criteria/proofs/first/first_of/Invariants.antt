-- `table_criteria::first::first_of` meets its contract: the places passed hold no criterion.
use mathlib.Core.Path.{◌≡◌}
use lib.ListN.{drop}
use Rattle.table_criteria.specs.Meets.{first_of}
use Rattle.table_criteria.proofs.first.first_of.Given as goal

abbrev pub invariant-loop-asked : goal.invariant-loop-asked
invariant-loop-asked l = first_of l.c ≡ first_of (drop l.asked-index l.c)
