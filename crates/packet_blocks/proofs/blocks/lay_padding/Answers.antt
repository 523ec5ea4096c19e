-- `packet_blocks::blocks::lay_padding` meets its contract: its first byte with zeros, and the count after them.
use mathlib.Core.Path.{refl}
use Rattle.packet_blocks.proofs.Built.{padding_laid}
use Rattle.packet_blocks.proofs.blocks.lay_padding.Goals as goal

pub returns : goal.returns
returns c = padding_laid _ _ _ _ _ _ _ c.lay.ensures c.lay-2.ensures c.count-bits.ensures refl
