-- What the calls of `write_reply` ask and leave: the parts are as long as the definition says, so each has room, and the end of the last is the reply's length.
-- Assumes nothing.
use mathlib.Core.Path.{◌≡◌, refl, ap, ◌∙◌}
use mathlib.Core.Bool.{Bool, true, false, cond, not, ◌||◌}
use mathlib.Core.List.{List, ◌++◌, append_assoc}
use Prim.Native.Nat.{ℕ, ◌+◌, ◌≤◌, ◌<◌}
use native.Mathlib.Omega.{arith}
use borrow.Author.Tests.{eqb-true}
use lib.Dec.{eqb, lit<}
use lib.ListN.{length, length-append}
use Rattle.octet_numbers.specs.Runs.{write}
use Rattle.octet_numbers.proofs.Write.{write_then}
use Rattle.packet_auth.specs.Signing.{zeros, authenticator}
use Rattle.attr_survey.specs.declared.counts.Noted.{Noted}
use Rattle.attr_survey.specs.Noted.{seen_at}
use Rattle.attr_survey.specs.Survey.{Kept}
use Rattle.attr_walk.specs.Attributes.{attributes, any, kind_is}
use Rattle.attr_lookup.proofs.Values.{seen_any}
use Rattle.std.specs.Prelude.{Option, Some, None}
use Rattle.refusals.specs.declared.Discard.TheVariants as D
use Rattle.rule_causes.specs.declared.cause.Cause.{Cause}
use Rattle.packet_form.specs.Packet.{code_of, auth_of, area_of}
use Rattle.packet_form.specs.Discards.{form_of, bad_length, bad_code, bad_attributes, Sized}
use Rattle.das_reply_parts.specs.Reply.{state_part, cause_part, proxy_part, body_of, maced, reply_length, head_of, reply_of}
use Rattle.packet_write.specs.Rooms.{mac_room, with_mac}
use Rattle.packet_write.proofs.Writes.{write_before}
use Rattle.das_reply_parts.proofs.Lengths.{length_auth, length_head}
use Rattle.packet_write.specs.Packets.{mac_valued, packet, packet_length}
use Rattle.packet_write.proofs.Sealing.{sealed}

-- a request's code is 40 or 43
code_of_lem : (k : ℕ) (a b x z : Bool) → eqb k 40 ≡ a → eqb k 43 ≡ b → cond x (Some D.Length) (cond (not (a || b)) (Some D.Code) (cond z (Some D.Attributes) None)) ≡ None → k < 64
code_of_lem k true b x z ea eb h = omega (arith, eqb-true k 40 ea)
code_of_lem k false true x z ea eb h = omega (arith, eqb-true k 43 eb)
code_of_lem k false false true z ea eb h = cc
code_of_lem k false false false z ea eb h = cc

pub code_low : (p : List ℕ) → form_of p ≡ None → code_of p < 64
unfolding form_of bad_code
code_low p h = code_of_lem (code_of p) _ _ (bad_length p) (bad_attributes p) refl refl h

-- s is the area of the request p
module _ (p s : List ℕ) (c : Option Cause) (area : s ≡ area_of p) where
  body_is : state_part s ++ cause_part c ++ proxy_part s ≡ body_of p c
  unfolding body_of
  body_is = rw area

  pub body_fits : (m : ℕ) → reply_length p c ≤ 4096 → 4096 ≤ m → 20 + length (state_part s ++ cause_part c ++ proxy_part s) ≤ m
  unfolding reply_length packet_length
  body_fits m h g = rw body_is (omega arith)

  module _ (noted : List Noted) (kept : Kept s noted) (present : Bool) (seen : present ≡ seen_at noted 80)
      (b : ℕ) (hb : b ≡ 20 + length (state_part s ++ cause_part c ++ proxy_part s)) where
    present_is : present ≡ maced p
    present_is = seen ∙ seen_any s noted kept 80 (lit< tt) (λ e. omega arith) ∙ ap (λ (a : List ℕ). any (kind_is 80) (attributes a)) area

    room_is : mac_room present ≡ mac_valued (maced p) zeros
    unfolding mac_room mac_valued
    room_is = rw present_is

    pub room_fits : (m k : ℕ) → reply_length p c ≤ 4096 → 4096 ≤ m → k ≡ m → b + length (mac_room present) ≤ k
    unfolding reply_length packet_length
    room_fits m k h g i = rw (hb, body_is, room_is) (omega arith)

    module _ (e : ℕ) (he : e ≡ b + length (mac_room present)) where
      pub end_is : e ≡ reply_length p c
      unfolding reply_length packet_length
      end_is = he ∙ rw (hb, body_is, room_is)

      pub end_low : reply_length p c ≤ 4096 → e ≤ 4096
      end_low h = rw end_is h

      -- l is the buffer before the calls
      pub replied : (n : ℕ) → Sized p n → (secret auth l t₁ t₂ t₃ t₄ : List ℕ) → auth ≡ auth_of p → reply_length p c ≤ 4096 → 4096 ≤ length l
          → t₁ ≡ write l 20 (state_part s ++ cause_part c ++ proxy_part s) → t₂ ≡ write t₁ b (mac_room present) → t₃ ≡ write t₂ 0 (head_of p c ++ auth)
          → t₄ ≡ write (with_mac present auth t₃ e secret) 4 (authenticator auth (with_mac present auth t₃ e secret) e secret) → t₄ ≡ write l 0 (reply_of secret p c)
      unfolding reply_length reply_of packet packet_length
      replied n sized secret auth l t₁ t₂ t₃ t₄ ea h g e₁ e₂ e₃ e₄ =
          let sixteen = length_auth p n sized in
          let w₂ : t₂ ≡ write l 20 (body_of p c ++ mac_valued (maced p) zeros) = write_then t₁ t₂ l 20 b (body_of p c) (mac_valued (maced p) zeros) (e₁ ∙ rw body_is) (e₂ ∙ rw room_is) (hb ∙ rw body_is) in
          let front : 20 ≡ 0 + length (head_of p c ++ auth_of p) = omega (arith, length-append (head_of p c) (auth_of p), length_head p c, sixteen) in
          let w₃ : t₃ ≡ write l 0 (packet (head_of p c) (body_of p c) (maced p) (auth_of p) zeros) =
          write_before t₂ t₃ l 0 20 (head_of p c ++ auth_of p) (body_of p c ++ mac_valued (maced p) zeros) w₂ (e₃ ∙ rw ea) front ∙ rw (← (append_assoc (head_of p c ++ auth_of p))) in
          sealed secret (auth_of p) (head_of p c) (body_of p c) l (maced p) (length_head p c) sixteen (omega arith)
          present t₃ (with_mac present (auth_of p) t₃ e secret) t₄ present_is w₃ (rw end_is) (e₄ ∙ rw (ea, end_is))

pub ruleset replying = (code_low, body_fits, room_fits, end_is)
