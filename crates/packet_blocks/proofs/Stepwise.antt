-- The request authenticator block by block. The words after k blocks are worked out block by block in MD5's own definition, and the padded
-- message has as many blocks as its length says, so the last words are the authenticator. Assumes nothing.
use mathlib.Core.Path.{◌≡◌, refl}
use mathlib.Core.List.{List}
use Prim.Native.Nat.{ℕ, suc, ◌+◌, ◌≤◌, ◌<◌}
use native.Mathlib.Omega.{arith}
use lib.ListN.{length, length-take, length-drop}
use Rattle.md5_ops.specs.declared.State.{State}
use Rattle.md5_ops.specs.Md5.{initial, output, md5}
use Rattle.md5_ops.proofs.After.{block_count_lem, length-pad}
use Rattle.packet_auth.specs.Signing.{zeros, signed, authenticator}
use Rattle.packet_blocks.specs.Block.{block_count, request_block, hashed, hashed_to}
use Rattle.packet_auth.proofs.Messages.{Alike, length-zeros, length-signed, same_signed}

pub blocks_none : (p : List ℕ) (n : ℕ) (secret : List ℕ) → hashed_to 0 p n secret ≡ initial
unfolding hashed_to
blocks_none p n secret = refl

pub blocks_more : (k : ℕ) (p : List ℕ) (n : ℕ) (secret : List ℕ) → hashed_to (suc k) p n secret ≡ hashed (hashed_to k p n secret) k p n secret
unfolding hashed_to hashed request_block
blocks_more k p n secret = refl

-- the words after all blocks are the authenticator
pub blocks_all : (p : List ℕ) (n : ℕ) (secret : List ℕ) → 20 ≤ n → n ≤ length p
    → output (hashed_to (block_count (n + length secret)) p n secret) ≡ authenticator zeros p n secret
unfolding hashed_to block_count authenticator md5
blocks_all p n secret low fits =
    let l : length (signed zeros p n secret) ≡ n + length secret = length-signed zeros p n low fits length-zeros secret in
    rw (block_count_lem (signed zeros p n secret), l)

pub length-request_block : (k : ℕ) (p : List ℕ) (n : ℕ) (secret : List ℕ) → 20 ≤ n → n ≤ length p → k < block_count (n + length secret)
    → length (request_block k p n secret) ≡ 64
unfolding block_count request_block
length-request_block k p n secret low fits h =
    let l : length (signed zeros p n secret) ≡ n + length secret = length-signed zeros p n low fits length-zeros secret in
    let lp = length-pad (signed zeros p n secret) in
    rw (length-take, length-drop) (omega arith)

-- the longest message of a request: Length 4,096 and a secret of 64 bytes
pub blocks_most : (n : ℕ) → n ≤ 4160 → block_count n ≤ 66
unfolding block_count
blocks_most n h = omega arith

module _ (n : ℕ) (p p' : List ℕ) (alike : Alike n p p') (secret : List ℕ) where
  pub same_request_block : (k : ℕ) → request_block k p n secret ≡ request_block k p' n secret
  unfolding request_block
  same_request_block k = rw (same_signed n p p' alike zeros secret)

  pub same_hashed : (q : State) (k : ℕ) → hashed q k p n secret ≡ hashed q k p' n secret
  unfolding hashed
  same_hashed q k = rw (same_request_block k)
