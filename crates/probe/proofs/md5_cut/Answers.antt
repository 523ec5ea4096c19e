-- `probe::md5_cut` meets its contract: three pieces after nothing.
use borrow.Author.Rules.{rules}
use Rattle.probe.proofs.Cuts.{md5_cut}
use Rattle.probe.proofs.md5_cut.Goals as goal

pub returns : goal.returns
returns c = md5_cut _ _ _ _ _ _ _ _ _ _ _ _ c.initial.ensures c.update-q.ensures c.update-q-2.ensures c.update-q-3.ensures c.finish.ensures (search rules) (search rules)
