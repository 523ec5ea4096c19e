-- The 64 bytes of a message from a place on, with zeros where the message has ended.
-- For inner contracts and proofs: the blocks are in packet_blocks/specs/Block.antt.
-- Assumes nothing.
use Rattle.std.specs.Prelude.{List, ℕ, replicate}
use Rattle.octet_numbers.specs.Runs.{part, write}

unfoldable pub window : ℕ → List ℕ → List ℕ
window s m = write (replicate 64 0) 0 (part s 64 m)
