-- `packet_form::packet::Packet::sized` meets its contract: D1 does not apply, so the Length is one that the bytes hold.
use borrow.Author.Rules.{rules}
use Rattle.packet_form.proofs.Forms.{good_head, good_sized}
use Rattle.packet_form.proofs.packet.Packet.sized.Goals as goal

pub be16-requires : goal.be16-requires
be16-requires c = search (rules, good_head)

pub invariant_of-result : goal.invariant_of-result
invariant_of-result c = search (rules, good_sized)
