-- What a hash under way holds of the n bytes that it was handed.
-- For inner contracts and proofs: the digest is in md5_ops/specs/Md5.antt.
-- Assumes nothing.
use Rattle.std.specs.Prelude.{◌≡◌, List, ℕ, ◌*◌, ◌/◌, ◌%◌, length, take, drop}
use Rattle.md5_ops.specs.declared.State.{State}
use Rattle.md5_ops.specs.Md5.{after, initial}

-- the words are those after the whole blocks of the message m; the bytes after them stand at the start of the buffer
pub record Held (n : ℕ) (m : List ℕ) (q : State) (buf : List ℕ) : Type 0 where
  pub count : n ≡ length m
  pub words : q ≡ after initial (n / 64) m
  pub rest : take (n % 64) buf ≡ drop (64 * (n / 64)) m
