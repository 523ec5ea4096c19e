-- The parts of a reply as the code writes them: an attribute as it came is its type, its length and its value; the head is a packet's front.
-- Assumes nothing.
use mathlib.Core.Path.{◌≡◌, ap, ◌∙◌}
use mathlib.Core.Bool.{cond}
use mathlib.Core.List.{List, ◌∷◌, ◌++◌}
use Prim.Native.Nat.{ℕ, ◌+◌}
use native.Mathlib.Omega.{arith}
use lib.ListN.{length}
use Rattle.octet_numbers.specs.Numbers.{be_bytes}
use Rattle.octet_numbers.specs.Runs.{write}
use Rattle.octet_numbers.proofs.Part.{length_part}
use Rattle.attr_walk.specs.declared.Attribute.{Attribute}
use Rattle.attr_walk.specs.declared.Step.TheVariants.{Found}
use Rattle.attr_walk.specs.Attributes.{step_at, value_at, value_of, bytes_of}
use Rattle.attr_walk.proofs.Steps.{step_inv}
use Rattle.attr_walk.proofs.Stands.{found_value}
use Rattle.attr_walk.proofs.Areas.{placed_bytes}
use Rattle.rule_causes.specs.declared.cause.Cause.{Cause}
use Rattle.std.specs.Prelude.{Option, is_some}
use Rattle.packet_form.specs.Packet.{code_of, identifier_of}
use Rattle.das_reply_parts.specs.Reply.{as_came, reply_length, head_of}

-- v is the value that the reader hands back
module _ (s v : List ℕ) (a : Attribute) (q : step_at s a.at ≡ Found a (a.at + a.size)) (is : v ≡ value_at s a.at) where
  pub came : as_came s a ≡ a.kind ∷ a.size ∷ v
  came =
      let p = step_inv s a.at a (a.at + a.size) q in
      let e : v ≡ value_of s a = is ∙ found_value s a.at a (a.at + a.size) q in
      let b : as_came s a ≡ bytes_of a.kind v = placed_bytes s a.at a (a.at + a.size) p ∙ rw e in
      let l : length v + 2 ≡ a.size = omega (arith, ap length b, length_part a.at a.size s (omega arith)) in
      b ∙ rw l

-- ---- the head

pub head_written : (p auth l t : List ℕ) (c : Option Cause) (n k : ℕ) → k ≡ cond (is_some c) 2 1 → n ≡ reply_length p c
    → t ≡ write l 0 (((code_of p + k) ∷ identifier_of p ∷ be_bytes 2 n) ++ auth) → t ≡ write l 0 (head_of p c ++ auth)
unfolding head_of
head_written p auth l t c n k ek en e = e ∙ rw (ek, en)
