-- Without type 80 nothing breaks D5 and the reply has none; without State the reply's attributes are Error-Cause and the Proxy-States.
-- Assumes nothing.
use mathlib.Core.Path.{◌≡◌, refl, ap, ◌∙◌}
use mathlib.Core.Bool.{false, true≢false}
use mathlib.Core.List.{List, [], ◌++◌}
use Prim.Native.Nat.{ℕ, ◌+◌}
use native.Mathlib.Omega.{arith}
use lib.ListN.{length, length-append}
use Rattle.attr_walk.specs.declared.Attribute.{Attribute}
use Rattle.std.specs.Prelude.{Option, Some, None}
use Rattle.attr_walk.specs.Attributes.{attributes, any, found, first_of, on_first, count_of, kind_is}
use Rattle.attr_walk.proofs.Searches.{any_none, only}
use Rattle.packet_auth.specs.Signing.{zeros}
use Rattle.rule_causes.specs.declared.cause.Cause.{Cause}
use Rattle.packet_form.specs.Packet.{area_of}
use Rattle.packet_mac.specs.Discards.{wrong_mac, bad_mac}
use Rattle.das_reply_parts.specs.Reply.{if_found, state_part, cause_part, proxy_part, body_of, maced, reply_length}
use Rattle.packet_write.specs.Packets.{mac_valued, packet_length}

not_found : (x : Option Attribute) → found x ≡ false → x ≡ None
not_found (Some a) h = absurd (true≢false h)
not_found None h = refl

module _ (p : List ℕ) (no_80 : any (kind_is 80) (attributes (area_of p)) ≡ false) where
  pub no_mac : (auth secret : List ℕ) → bad_mac auth secret p ≡ false
  unfolding bad_mac
  no_mac auth secret =
      let l = attributes (area_of p) in
      let z : count_of (kind_is 80) l ≡ 0 = any_none (kind_is 80) l no_80 in
      let m =
      only (kind_is 80) (wrong_mac auth secret p) l (omega arith)
      ∙ ap (on_first (wrong_mac auth secret p)) (not_found (first_of (kind_is 80) l) no_80) in
      rw (z, m)

  pub no_part : (value : List ℕ) → mac_valued (maced p) value ≡ []
  unfolding mac_valued
  no_part value = rw no_80

module _ (p : List ℕ) (no_24 : any (kind_is 24) (attributes (area_of p)) ≡ false) where
  no_state : state_part (area_of p) ≡ []
  unfolding state_part
  no_state = ap (if_found (area_of p)) (not_found (first_of (kind_is 24) (attributes (area_of p))) no_24)

  pub body_rest : (c : Option Cause) → body_of p c ≡ cause_part c ++ proxy_part (area_of p)
  unfolding body_of
  body_rest c = rw no_state

pub length_rest : (p : List ℕ) (c : Option Cause) → any (kind_is 24) (attributes (area_of p)) ≡ false
    → any (kind_is 80) (attributes (area_of p)) ≡ false
    → reply_length p c ≡ 20 + (length (cause_part c) + length (proxy_part (area_of p)))
unfolding reply_length packet_length
length_rest p c h g = rw (body_rest p h c, no_part p g zeros) (omega (arith, length-append (cause_part c) (proxy_part (area_of p))))
