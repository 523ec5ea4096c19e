-- `md5_padding::put_count` meets its contract: the library's bytes of the product are the definition's, which drops what eight bytes do not hold.
use mathlib.Core.Path.{refl, ◌∙◌}
use Prim.Native.Nat.{◌*◌}
use native.Mathlib.Omega.{arith}
use Rattle.octet_numbers.proofs.Write.{copied_over}
use Rattle.md5_padding.proofs.Written.{count_bytes}
use Rattle.md5_padding.proofs.put_count.Goals as goal

pub returns : goal.returns
returns c = copied_over 56 64 _ _ _ (c.copy_from_slice.ensures.after ∙ c.to_le_bytes.ensures ∙ count_bytes (c.args.n * 8)) refl (omega arith)
