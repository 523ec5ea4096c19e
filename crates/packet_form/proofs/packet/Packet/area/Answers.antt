-- `packet_form::packet::Packet::area` meets its contract: Length is at most 4,096, of which 20 come before the attributes.
use borrow.Author.Rules.{rules}
use Rattle.packet_form.proofs.Areas.{area_short}
use Rattle.packet_form.proofs.packet.Packet.area.Goals as goal

pub returns-clause-short : goal.returns-clause-short
returns-clause-short c = search (rules, area_short)
