-- The attributes of a reply before its type 80 fill their place, and none of them is of type 80: each part is an attribute as it came, one of a value of known length, or nothing.
-- Assumes nothing.
use mathlib.Core.Path.{◌≡◌, refl}
use mathlib.Core.Bool.{Bool, true, false, cond}
use mathlib.Core.List.{List, [], ◌∷◌, ◌++◌, Memᴰ}
use Prim.Native.Nat.{ℕ, ◌+◌}
use native.Mathlib.Omega.{arith}
use borrow.Author.Tests.{eqb-true}
use lib.ListN.{length}
use Rattle.octet_numbers.specs.Numbers.{be_bytes}
use Rattle.octet_numbers.proofs.Numbers.{length-be_bytes}
use Rattle.attr_walk.specs.declared.Attribute.{Attribute}
use Rattle.std.specs.Prelude.{Option, Some, None}
use Rattle.attr_walk.specs.declared.Step.TheVariants.{Found}
use Rattle.attr_walk.specs.Attributes.{step_at, value_of, attributes, first_of, kind_is}
use Rattle.attr_walk.proofs.Searches.{first_passes}
use Rattle.attr_walk.proofs.Steps.{step_inv}
use Rattle.attr_walk.proofs.Stands.{first_stands, member_stands}
use Rattle.attr_walk.proofs.Areas.{placed_bytes}
use Rattle.rule_causes.specs.declared.cause.Cause.{Cause}
use Rattle.rule_causes.specs.Causes.{error_cause}
use Rattle.packet_form.specs.Packet.{area_of}
use Rattle.das_reply_parts.specs.Reply.{as_came, if_found, state_part, cause_part, proxies_in, proxy_part, body_of}
use Rattle.packet_laws.proofs.Plain.{Plain, plain_nil, plain_both, plain_bytes}

-- an attribute as it came
came_plain : (s : List ℕ) (a : Attribute) → step_at s a.at ≡ Found a (a.at + a.size) → (a.kind ≡ 80 → ⊥) → Plain (as_came s a)
came_plain s a q h = rw (placed_bytes s a.at a (a.at + a.size) (step_inv s a.at a (a.at + a.size) q)) (plain_bytes a.kind (value_of s a) h)

found_plain : (s : List ℕ) (x : Option Attribute) → first_of (kind_is 24) (attributes s) ≡ x → Plain (if_found s x)
found_plain s (Some a) q = came_plain s a (first_stands (kind_is 24) s a q) (λ e. omega (arith, eqb-true a.kind 24 (first_passes (kind_is 24) (attributes s) a q)))
found_plain s None q = plain_nil

state_plain : (s : List ℕ) → Plain (state_part s)
unfolding state_part
state_plain s = found_plain s (first_of (kind_is 24) (attributes s)) refl

proxy_plain : (b : Bool) (x y : List ℕ) → (b ≡ true → Plain x) → Plain y → Plain (cond b (x ++ y) y)
proxy_plain true x y h g = plain_both x y (h refl) g
proxy_plain false x y h g = g

proxies_plain : (s : List ℕ) (l : List Attribute) → ((a : Attribute) → Memᴰ a l → step_at s a.at ≡ Found a (a.at + a.size)) → Plain (proxies_in s l)
proxies_plain s [] f = plain_nil
proxies_plain s (a ∷ l) f =
    proxy_plain (kind_is 33 a) (as_came s a) (proxies_in s l) (λ q. came_plain s a (f a (Memᴰ.head refl)) (λ e. omega (arith, eqb-true a.kind 33 q)))
    (proxies_plain s l (λ b m. f b (Memᴰ.tail m)))

all_plain : (s : List ℕ) → Plain (proxy_part s)
unfolding proxy_part
all_plain s = proxies_plain s (attributes s) (λ a m. member_stands s 0 a m)

cause_plain : (c : Option Cause) → Plain (cause_part c)
unfolding cause_part
cause_plain (Some c) =
    let v = be_bytes 4 (error_cause c) in
    let six : length v + 2 ≡ 6 = omega (arith, length-be_bytes 4 (error_cause c)) in
    rw (← six) (plain_bytes 101 v (λ h. omega arith))
cause_plain None = plain_nil

pub body_plain : (p : List ℕ) (c : Option Cause) → Plain (body_of p c)
unfolding body_of
body_plain p c =
    let s = area_of p in
    plain_both (state_part s ++ cause_part c) (proxy_part s) (plain_both (state_part s) (cause_part c) (state_plain s) (cause_plain c)) (all_plain s)
