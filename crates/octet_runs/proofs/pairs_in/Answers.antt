-- `octet_runs::pairs_in` meets its contract: the bytes are looked at from the lowest on, and the fourth pair is compared in any case.
use borrow.Author.Rules.{rules}
use Rattle.octet_runs.proofs.Digits.{pairs_1, pairs_2, pairs_3, pairs_4}
use Rattle.octet_runs.proofs.pairs_in.Goals as goal

pub returns-then-p-q : goal.returns-then-p-q
returns-then-p-q c = search (rules, pairs_1)

pub returns-then-p-q-2 : goal.returns-then-p-q-2
returns-then-p-q-2 c = search (rules, pairs_2)

pub returns-then-p-q-3 : goal.returns-then-p-q-3
returns-then-p-q-3 c = search (rules, pairs_3)

pub returns : goal.returns
returns c = search (rules, pairs_4)
