-- `attr_survey::with_vendors` meets its contract: where no type 26 was counted the flags of the types are those of the rules; else all of them join.
use borrow.Author.Rules.{rules}
use Rattle.attr_survey.proofs.VendorFlags.{flagged_vendors, flagged_none}
use Rattle.attr_survey.proofs.with_vendors.Goals as goal

pub returns-then-noted-eq0-clause-flagged : goal.returns-then-noted-eq0-clause-flagged
returns-then-noted-eq0-clause-flagged c = search (rules, flagged_none)

pub returns-clause-flagged : goal.returns-clause-flagged
returns-clause-flagged c = search (rules, flagged_vendors)
