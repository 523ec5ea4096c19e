-- `attr_survey::vendors::joined` meets its contract: the flags so far, with the attributes that are left, give the flags of all.
use borrow.Author.Rules.{rules}
use Rattle.attr_walk.proofs.Walks.{advance}
use Rattle.attr_survey.proofs.VendorFlags.{vendors_next, vendors_end, vendors_bad}
use Rattle.attr_survey.proofs.vendors.joined.Goals as goal

pub loop-a-smaller : goal.loop-a-smaller
loop-a-smaller c = search (rules, advance)

pub loop-a-preserved : goal.loop-a-preserved
loop-a-preserved c = search (rules, vendors_next)

pub returns-in-End : goal.returns-in-End
returns-in-End c = search (rules, vendors_end)

pub returns-in-Bad : goal.returns-in-Bad
returns-in-Bad c = search (rules, vendors_bad)
