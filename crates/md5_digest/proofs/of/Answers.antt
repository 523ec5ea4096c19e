-- `md5_digest::of` meets its contract: one piece after none.
use Rattle.md5_digest.proofs.Pieces.{held_whole}
use Rattle.md5_digest.proofs.of.Goals as goal

pub returns : goal.returns
returns c = held_whole _ _ _ _ _ _ c.initial.ensures c.update-q.ensures c.finish.ensures
