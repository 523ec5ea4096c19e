-- `attr_types::table` meets its contract: the table of the code is that of the definition, computed entry by entry.
use mathlib.Core.Path.{refl}
use Rattle.attr_types.specs.Types.{supported}
use Rattle.attr_types.specs.Classes.{classes, class_of}
use Rattle.attr_types.proofs.table.Goals as goal

pub returns : goal.returns
unfolding classes class_of supported
returns c = refl
