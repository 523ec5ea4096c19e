-- `md5_hmac::finish` meets its contract: the inner digest is hashed after the outer pad.
use Rattle.md5_hmac.proofs.Runs.{outer_run}
use Rattle.md5_hmac.proofs.finish.Goals as goal

pub returns : goal.returns
returns c = λ m held. outer_run c.args.key.now m _ _ _ _ _ _ _ _ _ c.finish-inner.ensures c.keyed.ensures c.update-r.ensures c.finish.ensures held
