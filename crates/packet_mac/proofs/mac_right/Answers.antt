-- `packet_mac::mac_right` meets its contract: the comparison takes all of the Message-Authenticator.
use borrow.Author.Rules.{rules}
use Rattle.packet_auth.proofs.Messages.{length-message_authenticator}
use Rattle.packet_auth.proofs.Pieces.{compared}
use Rattle.packet_mac.proofs.mac_right.Goals as goal

pub returns : goal.returns
returns c = search (rules, compared, length-message_authenticator)
