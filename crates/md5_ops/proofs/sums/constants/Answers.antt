-- `md5_ops::sums::constants` meets its contract: a test of the whole table, which is computed, says that each constant stands at its place.
use Rattle.md5_ops.specs.Steps.{place}
use Rattle.md5_ops.proofs.Filled.{in_place}
use Rattle.md5_ops.proofs.sums.constants.Goals as goal

pub returns : goal.returns
unfolding place
returns c = in_place _ tt
