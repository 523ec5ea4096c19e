-- `probe::bytes::probe_equal` meets its contract: it says what the comparison says.
use borrow.Author.Rules.{rules}
use Rattle.probe_laws.proofs.Answers.{says_same, says_other}
use Rattle.probe.proofs.bytes.probe_equal.Goals as goal

pub returns-then-equal : goal.returns-then-equal
returns-then-equal c = search (rules, says_same)

pub returns : goal.returns
returns c = search (rules, says_other)
