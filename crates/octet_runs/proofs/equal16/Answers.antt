-- `octet_runs::equal16` meets its contract: d is 0 exactly while no byte has differed.
use borrow.Author.Rules.{rules}
use mathlib.Core.Path.{◌≡◌}
use native.Mathlib.Omega.{arith}
use Rattle.octet_runs.proofs.Gathering.{gather_none, gather_next}
use Rattle.octet_runs.proofs.equal16.Goals as goal

pub loop-i-init : goal.loop-i-init
loop-i-init c = search (rules, gather_none)

pub loop-i-preserved : goal.loop-i-preserved
loop-i-preserved c = search (rules, gather_next)

pub returns : goal.returns
returns c = let all : c.loop-i.i ≡ 16 = omega arith in rw all at c.loop-i.invariant
