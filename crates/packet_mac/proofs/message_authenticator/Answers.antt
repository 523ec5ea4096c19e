-- `packet_mac::message_authenticator` meets its contract: the front in the buffer, then the attributes with zeros in the value's place as pieces.
use borrow.Author.Rules.{rules}
use mathlib.Core.Path.{refl}
use native.Mathlib.Omega.{arith}
use Rattle.packet_mac.proofs.Runs.{mac_run}
use Rattle.packet_mac.proofs.message_authenticator.Goals as goal

pub returns : goal.returns
returns c = mac_run c.args.auth.now c.args.p.now c.args.n (omega (arith, c.requires)) (omega (arith, c.requires)) (omega (arith, c.requires)) c.args.at (omega (arith, c.requires)) (omega (arith, c.requires)) c.args.secret.now _ _ _ _ _ _ _ _ _ _ _ c.front.ensures (search rules) refl c.start.ensures c.update-q.ensures c.update-q-2.ensures c.update-q-3.ensures c.finish.ensures
