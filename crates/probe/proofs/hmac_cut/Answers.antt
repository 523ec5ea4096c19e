-- `probe::hmac_cut` meets its contract: three pieces after the key's block.
use native.Mathlib.Omega.{arith}
use Rattle.probe.proofs.Cuts.{hmac_cut}
use Rattle.probe.proofs.hmac_cut.Goals as goal

pub returns : goal.returns
returns c = hmac_cut c.args.key.now _ _ _ _ _ _ _ _ _ _ _ _ c.start.ensures c.update-q.ensures c.update-q-2.ensures c.update-q-3.ensures c.finish.ensures (omega (arith, c.requires)) (omega (arith, c.requires))
