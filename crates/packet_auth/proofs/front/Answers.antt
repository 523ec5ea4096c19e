-- `packet_auth::front` meets its contract: the second copy begins where the first ended.
use borrow.Author.Rules.{rules}
use Rattle.packet_auth.proofs.Pieces.{fronted}
use Rattle.packet_auth.proofs.front.Goals as goal

pub returns : goal.returns
returns c = search (rules, fronted)
