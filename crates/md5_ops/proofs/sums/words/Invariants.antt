-- `md5_ops::sums::words` meets its contract: after j turns the first j words are read.
use Rattle.md5_ops.proofs.Filled.{Read}
use Rattle.md5_ops.proofs.sums.words.Given as goal

abbrev pub invariant-loop-j : goal.invariant-loop-j
invariant-loop-j l = Read l.m l.x l.j
