-- `packet_blocks::hash_block` meets its contract: after the first block the message is the packet, up to Length.
use borrow.Author.Rules.{rules}
use Rattle.packet_blocks.proofs.Built.{hashed_there}
use Rattle.packet_blocks.proofs.hash_block.Goals as goal

pub returns-then-k-n : goal.returns-then-k-n
returns-then-k-n c = search (rules, hashed_there)
