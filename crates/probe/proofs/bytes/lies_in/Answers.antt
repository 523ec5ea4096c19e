-- `probe::bytes::lies_in` meets its contract: the sum is compared without being made.
use borrow.Author.Rules.{rules}
use Rattle.probe_laws.proofs.Answers.{lies_past, lies_rest}
use Rattle.probe.proofs.bytes.lies_in.Goals as goal

pub returns-then-len-at : goal.returns-then-len-at
returns-then-len-at c = search (rules, lies_past)

pub returns : goal.returns
returns c = search (rules, lies_rest)
