-- `md5_blocks::hash` meets its contract: after k turns the words are those after the first k blocks.
use mathlib.Core.Path.{◌≡◌}
use Rattle.md5_ops.specs.Md5.{after}
use Rattle.md5_blocks.proofs.hash.Given as goal

abbrev pub invariant-loop-k : goal.invariant-loop-k
invariant-loop-k l = l.r ≡ after l.initial.r l.k l.m
