-- `octet_runs::equal` meets its contract: texts with the same length and the same bytes, last first, are the same bytes.
use borrow.Author.Rules.{rules}
use Rattle.octet_runs.proofs.Backward.{equal_is}
use Rattle.octet_runs.proofs.equal.Goals as goal

pub returns : goal.returns
returns c = search (rules, equal_is)
