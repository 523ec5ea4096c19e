-- `octet_runs::compare` meets its contract: the bytes before place i are those not yet compared, and decide the rest of the answer; four are the same
-- exactly where their number is.
use borrow.Author.Rules.{rules}
use Rattle.octet_runs.proofs.Backward.{other_length, first_same, first_count, done}
use Rattle.octet_runs.proofs.Turns.{words_apart, words_same, words_count, bytes_apart, bytes_same, bytes_count}
use Rattle.octet_runs.proofs.compare.Goals as goal

pub returns-then-n-b : goal.returns-then-n-b
returns-then-n-b c = search (rules, other_length)

pub loop-i-init : goal.loop-i-init
loop-i-init c = search (rules, first_same, first_count)

pub returns-then-x-y : goal.returns-then-x-y
returns-then-x-y c = search (rules, words_apart)

pub loop-i-preserved : goal.loop-i-preserved
loop-i-preserved c = search (rules, words_same, words_count)

pub returns-then-a-j : goal.returns-then-a-j
returns-then-a-j c = search (rules, bytes_apart)

pub loop-j-preserved : goal.loop-j-preserved
loop-j-preserved c = search (rules, bytes_same, bytes_count)

pub returns : goal.returns
returns c = search (rules, done)
