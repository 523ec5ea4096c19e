-- Hash: the next block is one of the message, or Check comes. A message under a secret of 64 bytes has at most 66 blocks.
-- Assumes nothing.
use mathlib.Core.Path.{◌≡◌}
use mathlib.Core.List.{List}
use Prim.Native.Nat.{ℕ, ◌+◌, ◌≤◌, ◌<◌}
use native.Mathlib.Omega.{arith}
use borrow.Author.Tests.{lt-ltb, le-ltb}
use lib.ListN.{length}
use Rattle.packet_blocks.specs.Block.{block_count, hashed}
use Rattle.sched_job.specs.declared.Job.{Job}
use Rattle.sched_job.specs.declared.Stage.TheVariants.{Hash, Check}
use Rattle.packet_words.specs.Words.{words_of, hash_state}
use Rattle.sched_job.specs.Moves.{hash_job}

pub blocks_few : (n s k : ℕ) → n ≤ 4096 → s ≤ 64 → k < block_count (n + s) → k < 66
unfolding block_count
blocks_few n s k h i j = omega arith

module _ (secret q w : List ℕ) (j : Job) (k m : ℕ) (words : w ≡ words_of (hashed (hash_state j.words) k q j.length secret)) (blocks : m ≡ block_count (j.length + length secret)) where
  pub hash-on : k + 1 < m → record { stage = Hash (k + 1); words = w; marks = j.marks; length = j.length; clock = j.clock } ≡ hash_job secret j k q
  unfolding hash_job
  hash-on h = rw (← blocks, lt-ltb _ _ h, words)

  pub hash-last : m ≤ k + 1 → record { stage = Check; words = w; marks = j.marks; length = j.length; clock = j.clock } ≡ hash_job secret j k q
  unfolding hash_job
  hash-last h = rw (← blocks, le-ltb _ _ h, words)
