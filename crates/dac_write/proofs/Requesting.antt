-- What the calls of `put_request` ask and leave: R13 says that the attributes and type 80 have room, and the end of the last part is the request's length.
-- Assumes nothing.
use mathlib.Core.Path.{◌≡◌, refl, ◌∙◌}
use mathlib.Core.Bool.{Bool, true, false, cond, not, ◌||◌, false≢true}
use mathlib.Core.List.{List, [], ◌∷◌, ◌++◌, append_assoc}
use Prim.Native.Nat.{ℕ, ◌+◌, ◌≤◌}
use native.Mathlib.Omega.{arith}
use borrow.Author.Tests.{ltb-false}
use lib.Dec.{ltb}
use lib.ListN.{length, length-append, replicate}
use Rattle.octet_numbers.specs.Numbers.{be_bytes}
use Rattle.octet_numbers.specs.Runs.{write}
use Rattle.octet_numbers.proofs.Numbers.{length-be_bytes}
use Rattle.octet_numbers.proofs.Write.{write_then}
use Rattle.attr_walk.specs.Attributes.{attributes, tiled, any, kind_is}
use Rattle.packet_auth.specs.Signing.{zeros, authenticator}
use Rattle.packet_auth.proofs.Messages.{length-zeros}
use Rattle.packet_write.specs.Rooms.{mac_room, with_mac}
use Rattle.packet_write.proofs.Writes.{write_before}
use Rattle.packet_write.specs.Packets.{mac_valued, packet, packet_length}
use Rattle.packet_write.proofs.Sealing.{sealed}
use Rattle.dac_write.specs.Writer.{draft, bad_given, request_length, request_head, request_of}

-- R13 does not apply: the attributes have room, type 80 with them
long_case : (n : ℕ) (add x y z : Bool) → ltb (cond add 4058 4076) n ≡ z → (x || (y || z)) ≡ false → n + length (cond add (80 ∷ 18 ∷ zeros) []) ≤ 4076
long_case n true false false false e h = omega (arith, length-zeros, ltb-false 4058 n e)
long_case n false false false false e h = omega (arith, ltb-false 4076 n e)
long_case n add true y z e h = absurd (false≢true (rw (← h)))
long_case n add false true z e h = absurd (false≢true (rw (← h)))
long_case n add false false true e h = absurd (false≢true (rw (← h)))

pub header_low : (n : ℕ) → 20 ≤ 20 + n
header_low n = omega arith

-- a place after the header and not after the attributes
pub ruleset places = (header_low)

module _ (g : List ℕ) (code identifier : ℕ) (add : Bool) (good : bad_given (draft code identifier g add) ≡ false) where
  pub given_short : length g + length (mac_room add) ≤ 4076
  unfolding bad_given mac_room
  given_short = long_case (length g) add (not (tiled g)) (any (kind_is 80) (attributes g)) _ refl good

  pub copy_fits : (m : ℕ) → 4096 ≤ m → 20 + length g ≤ m
  copy_fits m h = omega (arith, given_short)

  -- type 80 goes to place at
  pub room_fits : (at m k : ℕ) → at ≤ 20 + length g → 4096 ≤ m → k ≡ m → at + length (mac_room add) ≤ k
  room_fits at m k l h e = omega (arith, given_short)

  -- e is the end of the last part
  module _ (e at : ℕ) (he : e ≡ at + length (mac_room add)) where
    pub end_low : 20 ≤ at → 20 + length (mac_room add) ≤ e
    end_low l = omega arith

    pub end_high : at ≤ 20 + length g → e ≤ 4096
    end_high l = omega (arith, given_short)

  module _ (e : ℕ) (he : e ≡ 20 + length g + length (mac_room add)) where
    pub end_is : e ≡ request_length (draft code identifier g add)
    unfolding request_length mac_room packet_length mac_valued
    end_is = he

    -- l is the buffer before the calls
    pub requested : (secret l t₁ t₂ t₃ t₄ : List ℕ) → 4096 ≤ length l → t₁ ≡ write l 20 g → t₂ ≡ write t₁ (20 + length g) (mac_room add)
        → t₃ ≡ write t₂ 0 ((code ∷ identifier ∷ be_bytes 2 e) ++ replicate 16 0)
        → t₄ ≡ write (with_mac add zeros t₃ e secret) 4 (authenticator zeros (with_mac add zeros t₃ e secret) e secret)
        → t₄ ≡ write l 0 (request_of secret (draft code identifier g add))
    unfolding zeros mac_room request_length request_head request_of packet packet_length mac_valued
    requested secret l t₁ t₂ t₃ t₄ h e₁ e₂ e₃ e₄ =
        let head = code ∷ identifier ∷ be_bytes 2 (request_length (draft code identifier g add)) in
        let four : length head ≡ 4 = omega (arith, length-be_bytes 2 (request_length (draft code identifier g add))) in
        let w₂ : t₂ ≡ write l 20 (g ++ mac_valued add zeros) = write_then t₁ t₂ l 20 (20 + length g) g (mac_valued add zeros) e₁ e₂ refl in
        let front : 20 ≡ 0 + length (head ++ zeros) = omega (arith, length-append head zeros, length-zeros) in
        let w₃ : t₃ ≡ write l 0 (packet head g add zeros zeros) =
        write_before t₂ t₃ l 0 20 (head ++ zeros) (g ++ mac_valued add zeros) w₂ (e₃ ∙ rw end_is) front ∙ rw (← (append_assoc (head ++ zeros))) in
        let short = given_short in
        sealed secret zeros head g l add four length-zeros (omega arith) add t₃ (with_mac add zeros t₃ e secret) t₄ refl w₃ (rw he) (e₄ ∙ rw he)

-- the signatures over the sixteen zeros z
pub seals_over : (z t t₂ secret : List ℕ) (add : Bool) (n : ℕ) → z ≡ replicate 16 0 → t₂ ≡ write (with_mac add z t n secret) 4 (authenticator z (with_mac add z t n secret) n secret)
    → t₂ ≡ write (with_mac add zeros t n secret) 4 (authenticator zeros (with_mac add zeros t n secret) n secret)
unfolding zeros
seals_over z t t₂ secret add n e e₂ = e₂ ∙ rw e
