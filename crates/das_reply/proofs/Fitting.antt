-- "It is never longer than the request, because the 6 bytes of type 55 are not returned": what is returned of types 24, 33 and 80 is no more than the request has of them,
-- and Error-Cause takes the 6 bytes of type 55. Assumes nothing.
use mathlib.Core.Path.{◌≡◌, refl}
use mathlib.Core.Bool.{Bool, true, false, cond}
use mathlib.Core.List.{List, [], ◌∷◌}
use Prim.Native.Nat.{ℕ, ◌-◌, ◌≤◌}
use native.Mathlib.Omega.{arith}
use lib.ListN.{length, length-append}
use Rattle.octet_numbers.proofs.Numbers.{length-be_bytes}
use Rattle.octet_numbers.proofs.Part.{length_part}
use Rattle.attr_walk.specs.Attributes.{attributes, any, first_of, kind_is}
use Rattle.packet_auth.specs.Signing.{zeros}
use Rattle.packet_auth.proofs.Messages.{length-zeros}
use Rattle.attr_survey.specs.Survey.{size_of}
use Rattle.std.specs.Prelude.{Option, Some, None}
use Rattle.rule_causes.specs.declared.cause.Cause.{Cause}
use Rattle.rule_causes.specs.Causes.{error_cause}
use Rattle.packet_form.specs.Packet.{area_of}
use Rattle.packet_form.specs.Discards.{Sized}
use Rattle.das_reply_parts.specs.Reply.{state_part, cause_part, proxy_part, body_of, reply_length}
use Rattle.packet_write.specs.Packets.{mac_valued, packet_length}
use Rattle.das_reply.proofs.Sums.{sum_of, total_fits, first_size, length_found, length_proxies, four_types}

length_cause : (c : Option Cause) → length (cause_part c) ≤ 6
unfolding cause_part
length_cause (Some c) = omega (arith, length-be_bytes 4 (error_cause c))
length_cause None = omega arith

length_state : (s : List ℕ) → length (state_part s) ≤ sum_of (kind_is 24) (attributes s)
unfolding state_part
length_state s = omega (arith, length_found s (first_of (kind_is 24) (attributes s)), first_size (kind_is 24) (attributes s))

length-all : (s : List ℕ) → length (proxy_part s) ≤ sum_of (kind_is 33) (attributes s)
unfolding proxy_part
length-all s = length_proxies s (attributes s)

mac_case : (b : Bool) (z n : ℕ) → (b ≡ true → z ≡ 18) → z ≤ n → length (cond b (80 ∷ 18 ∷ zeros) []) ≤ n
mac_case true z n f h = omega (arith, f refl, length-zeros)
mac_case false z n f h = omega arith

-- type 55 has length 6, and type 80, where it stands, length 18
pub reply_fits : (p : List ℕ) (n : ℕ) (c : Option Cause) → Sized p n → size_of (first_of (kind_is 55) (attributes (area_of p))) ≡ 6
    → (any (kind_is 80) (attributes (area_of p)) ≡ true → size_of (first_of (kind_is 80) (attributes (area_of p))) ≡ 18) → reply_length p c ≤ n
unfolding reply_length body_of packet_length mac_valued
reply_fits p n c sized stamp mac =
    let s = area_of p in
    let l = attributes s in
    let is = sized.is in
    let low = sized.low in
    let given = sized.given in
    let long : length s ≡ n - 20 = rw (← is) (length_part 20 (n - 20) p (omega arith)) in
    let m : length (cond (any (kind_is 80) l) (80 ∷ 18 ∷ zeros) []) ≤ sum_of (kind_is 80) l = mac_case (any (kind_is 80) l) (size_of (first_of (kind_is 80) l)) (sum_of (kind_is 80) l) mac (first_size (kind_is 80) l) in
    simp length-append (omega (arith, m, length_state s, length_cause c, length-all s, first_size (kind_is 55) l, four_types l, total_fits s))

-- so it is no longer than a packet may be
pub reply_short : (p : List ℕ) (n : ℕ) (c : Option Cause) → Sized p n → size_of (first_of (kind_is 55) (attributes (area_of p))) ≡ 6
    → (any (kind_is 80) (attributes (area_of p)) ≡ true → size_of (first_of (kind_is 80) (attributes (area_of p))) ≡ 18) → reply_length p c ≤ 4096
reply_short p n c sized stamp mac = omega (arith, sized.high, reply_fits p n c sized stamp mac)
