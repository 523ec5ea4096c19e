-- `md5_hmac::of` meets its contract: one piece after the inner pad.
use Rattle.md5_hmac.proofs.Runs.{whole_run}
use Rattle.md5_hmac.proofs.of.Goals as goal

pub returns : goal.returns
returns c = whole_run c.args.key.now _ _ _ _ _ _ c.start.ensures c.update-q.ensures c.finish.ensures
