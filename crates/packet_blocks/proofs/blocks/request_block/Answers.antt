-- `packet_blocks::blocks::request_block` meets its contract: the packet, the secret and the padding stand after each other, and fill the block.
use borrow.Author.Rules.{rules}
use mathlib.Core.Path.{refl}
use Rattle.packet_blocks.proofs.Built.{block_laid}
use Rattle.packet_blocks.proofs.blocks.request_block.Goals as goal

pub returns : goal.returns
returns c =
    block_laid _ _ _ _ _ (search rules) (search rules) _ _ _ _ _ c.lay_packet.ensures c.lay.ensures c.lay_padding.ensures refl refl refl
    (search rules)
