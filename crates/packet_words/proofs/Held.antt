-- A digest is compared whole: it has sixteen bytes.
-- Assumes nothing.
use mathlib.Core.Path.{◌≡◌, ap, ◌∙◌}
use mathlib.Core.Bool.{Bool}
use mathlib.Core.List.{List}
use Prim.Native.Nat.{ℕ}
use Rattle.octet_numbers.specs.Runs.{part, equal_bytes}
use Rattle.md5_ops.specs.declared.State.{State}
use Rattle.md5_ops.specs.Md5.{output}
use Rattle.md5_ops.proofs.After.{length-output}
use Rattle.packet_auth.proofs.Pieces.{compared}
use Rattle.packet_words.specs.Words.{hash_state, words_signed}

pub words_signed_lem : (w q d : List ℕ) (s : State) (r : Bool) → s ≡ hash_state w → d ≡ output s → r ≡ equal_bytes (part 4 16 q) (part 0 16 d)
    → r ≡ words_signed w q
unfolding words_signed
words_signed_lem w q d s r i h e = compared (part 4 16 q) d (output (hash_state w)) r e (h ∙ ap output i) (length-output (hash_state w))
