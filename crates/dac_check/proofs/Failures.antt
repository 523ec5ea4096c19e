-- V2's second part is what the pass over the reply's attributes told.
-- Assumes nothing.
use mathlib.Core.Path.{◌≡◌, ◌∙◌}
use mathlib.Core.Bool.{Bool, true, false, not}
use mathlib.Core.List.{List}
use Prim.Native.Nat.{ℕ}
use Rattle.std.specs.Prelude.{Some, None}
use Rattle.attr_walk.specs.Attributes.{tiled}
use Rattle.attr_survey.specs.declared.Flags.{Flags}
use Rattle.attr_survey.specs.Survey.{Flagged}
use Rattle.packet_form.specs.Packet.{area_of}
use Rattle.packet_form.specs.Discards.{bad_length, bad_attributes, form_of}
use Rattle.refusals.specs.declared.Mismatch.TheVariants as V
use Rattle.dac_check.specs.ReplyCheck.{bad_request, bad_reply, failure_of}

-- b is what D1 says of the reply, f what a pass over its attributes told
module _ (r : List ℕ) (b : Bool) (long : b ≡ bad_length r) (good : b ≡ false) (s : List ℕ) (k : ℕ) (f : Flags) (area : s ≡ area_of r) (flagged : Flagged s k f) where
  tiles_as : f.tiled ≡ tiled (area_of r)
  tiles_as = flagged.tiles ∙ rw area

  pub attributes_fail : (secret q : List ℕ) → form_of q ≡ None → not f.tiled ≡ true → failure_of secret q r ≡ Some V.Reply
  unfolding failure_of bad_request bad_reply bad_attributes
  attributes_fail secret q formed h = rw (formed, ← long, good, ← tiles_as, h)

  pub reply_good : not f.tiled ≡ false → bad_reply r ≡ false
  unfolding bad_reply bad_attributes
  reply_good h = rw (← long, good, ← tiles_as, h)
