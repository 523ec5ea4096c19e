-- `attr_survey::vendors::told` meets its contract: each flag is its call.
use borrow.Author.Rules.{rules}
use Rattle.attr_survey.proofs.VendorFlags.{told_flags}
use Rattle.attr_survey.proofs.vendors.told.Goals as goal

pub returns : goal.returns
returns c = search (rules, told_flags)
