-- `packet_mac::bad_request_mac` meets its contract: the sixteen zeros stand in the authenticator's place.
use borrow.Author.Rules.{rules}
use Rattle.packet_mac.proofs.Judged.{mac_over_zeros}
use Rattle.packet_mac.proofs.bad_request_mac.Goals as goal

pub returns : goal.returns
returns c = search (rules, mac_over_zeros)
