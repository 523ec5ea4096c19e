-- `packet_blocks::blocks::lay_packet` meets its contract: the three parts stand after each other.
use borrow.Author.Rules.{rules}
use mathlib.Core.Path.{refl}
use Rattle.packet_blocks.proofs.Built.{packet_laid}
use Rattle.packet_blocks.proofs.blocks.lay_packet.Goals as goal

pub returns : goal.returns
returns c = packet_laid _ _ _ _ _ _ _ _ c.lay.ensures c.lay-2.ensures c.lay-3.ensures refl (search rules) (search rules)
