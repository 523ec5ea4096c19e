-- `attr_lookup::value_of` meets its contract: the part of the area that starts after type and length.
use borrow.Author.Rules.{rules}
use Rattle.attr_lookup.proofs.Values.{kept_part}
use Rattle.attr_lookup.proofs.value_of.Goals as goal

pub returns : goal.returns
returns c = search (rules, kept_part)
