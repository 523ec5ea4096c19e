-- `packet_auth::authenticator` meets its contract: the front in the buffer, then the attributes and the secret as pieces.
use borrow.Author.Rules.{rules}
use Rattle.packet_auth.proofs.Pieces.{signed-run}
use Rattle.packet_auth.proofs.authenticator.Goals as goal

pub returns : goal.returns
returns c = signed-run c.args.auth.now c.args.p.now c.args.n (search rules) (search rules) (search rules) c.args.secret.now _ _ _ _ _ _ _ _ c.front.ensures (search rules) c.initial.ensures c.update-q.ensures c.update-q-2.ensures c.finish.ensures
