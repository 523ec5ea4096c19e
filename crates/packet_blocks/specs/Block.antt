-- The request authenticator block by block (document 01, "The desk", Hash).
-- Assumes nothing.
use Rattle.std.specs.Prelude.{List, ℕ, ◌+◌, ◌/◌}
use Rattle.md5_ops.specs.declared.State.{State}
use Rattle.md5_ops.specs.Md5.{md5_block, block_at, after, initial, pad}
use Rattle.packet_auth.specs.Signing.{zeros, signed}

-- a message of n bytes has floor((n + 8) / 64) + 1 blocks
unfoldable pub block_count : ℕ → ℕ
block_count n = (n + 8) / 64 + 1

-- block k of the signed request, with its padding
unfoldable pub request_block : ℕ → List ℕ → ℕ → List ℕ → List ℕ
request_block k p n secret = block_at k (pad (signed zeros p n secret))

-- the chaining words after block k, from q on
unfoldable pub hashed : State → ℕ → List ℕ → ℕ → List ℕ → State
hashed q k p n secret = md5_block q (request_block k p n secret)

-- the chaining words after the first k blocks
unfoldable pub hashed_to : ℕ → List ℕ → ℕ → List ℕ → State
hashed_to k p n secret = after initial k (pad (signed zeros p n secret))
