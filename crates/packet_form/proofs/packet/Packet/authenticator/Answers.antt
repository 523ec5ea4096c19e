-- `packet_form::packet::Packet::authenticator` meets its contract: bytes 4 to 19 are a part of 16 bytes.
use borrow.Author.Rules.{rules}
use Rattle.octet_numbers.specs.Runs.{part}
use Rattle.packet_form.proofs.packet.Packet.authenticator.Goals as goal

pub returns : goal.returns
unfolding part
returns c = search rules
