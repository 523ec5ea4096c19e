-- `probe_packets::by_blocks` meets its contract: after k turns the words are those after k blocks.
use mathlib.Core.Path.{◌≡◌}
use Rattle.packet_blocks.specs.Block.{hashed_to}
use Rattle.probe_packets.proofs.by_blocks.Given as goal

abbrev pub invariant-loop-k : goal.invariant-loop-k
invariant-loop-k l = l.q ≡ hashed_to l.k l.p l.n l.secret
