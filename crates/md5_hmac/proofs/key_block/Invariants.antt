-- `md5_hmac::key_block` meets its contract: after i turns the first i bytes of the key stand over the pad bytes.
use mathlib.Core.Path.{◌≡◌}
use lib.ListN.{length, take, replicate}
use Rattle.md5_hmac.proofs.Keys.{padded}
use Rattle.octet_numbers.specs.Runs.{write}
use Rattle.md5_hmac.proofs.key_block.Given as goal

abbrev pub invariant-loop-i : goal.invariant-loop-i
invariant-loop-i l = (length l.r ≡ 64) × (l.r ≡ write (replicate 64 l.c) 0 (take l.i (padded l.c l.key)))
