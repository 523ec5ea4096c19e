-- `attr_survey::vendors::turned` meets its contract: a type 26 joins what it says, any other type says nothing.
use borrow.Author.Rules.{rules}
use Rattle.attr_survey.proofs.VendorFlags.{turned_vendor, turned_plain}
use Rattle.attr_survey.proofs.vendors.turned.Goals as goal

pub returns-then-a-eq-VENDOR_SPECIFIC : goal.returns-then-a-eq-VENDOR_SPECIFIC
returns-then-a-eq-VENDOR_SPECIFIC c = search (rules, turned_vendor)

pub returns : goal.returns
returns c = search (rules, turned_plain)
