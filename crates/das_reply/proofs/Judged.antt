-- What D5 and D6 leave of types 80 and 55 is what the reply's length asks: a usable stamp has length 6, and a type 80 that is right has length 18.
-- Assumes nothing.
use mathlib.Core.Path.{◌≡◌, refl, sym, ◌∙◌}
use mathlib.Core.Bool.{Bool, true, false, cond, false≢true}
use mathlib.Core.List.{List}
use Prim.Native.Nat.{ℕ, ◌+◌, ◌≤◌}
use borrow.Author.Tests.{eqb-true, ltb-false}
use lib.Dec.{eqb}
use Rattle.octet_numbers.specs.Numbers.{be}
use Rattle.octet_numbers.proofs.Bools.{neither, not-false}
use Rattle.attr_walk.specs.declared.Attribute.{Attribute}
use Rattle.std.specs.Prelude.{Option, Some, None}
use Rattle.attr_walk.specs.Attributes.{attributes, any, found, first_of, on_first, count_of, kind_is}
use Rattle.attr_walk.proofs.Searches.{only}
use Rattle.rule_stamp.specs.Stamp.{stamp_in, stamp_of}
use Rattle.attr_survey.specs.Survey.{size_of}
use Rattle.rule_causes.specs.declared.cause.Cause.{Cause}
use Rattle.packet_form.specs.Packet.{area_of}
use Rattle.packet_form.specs.Discards.{Sized}
use Rattle.packet_mac.specs.Discards.{wrong_mac, bad_mac}
use Rattle.das_reply_parts.specs.Reply.{reply_length}
use Rattle.das_reply.proofs.Fitting.{reply_fits}

-- D6
six_case : (a : Attribute) (x : Option ℕ) (b : Bool) (v : ℕ) → eqb a.size 6 ≡ b → cond b x None ≡ Some v → a.size ≡ 6
six_case a x true v e h = eqb-true a.size 6 e
six_case a x false v e h = cc

six_in : (s : List ℕ) (x : Option Attribute) (v : ℕ) → stamp_in s x ≡ Some v → size_of x ≡ 6
six_in s (Some a) v h = six_case a (Some (be (a.at + 2) 4 s)) (eqb a.size 6) v refl h
six_in s None v h = cc

six_once : (s : List ℕ) (b : Bool) (v : ℕ) → cond b (stamp_in s (first_of (kind_is 55) (attributes s))) None ≡ Some v → size_of (first_of (kind_is 55) (attributes s)) ≡ 6
six_once s true v h = six_in s (first_of (kind_is 55) (attributes s)) v h
six_once s false v h = cc

pub stamp_six : (s : List ℕ) (v : ℕ) → stamp_of s ≡ Some v → size_of (first_of (kind_is 55) (attributes s)) ≡ 6
unfolding stamp_of
stamp_six s v h = six_once s (eqb (count_of (kind_is 55) (attributes s)) 1) v h

-- D5
right_size : (auth secret p : List ℕ) (x : Option Attribute) → on_first (wrong_mac auth secret p) x ≡ false → found x ≡ true → size_of x ≡ 18
unfolding wrong_mac
right_size auth secret p (Some a) h g = eqb-true a.size 18 (not-false (eqb a.size 18) (neither _ _ h).0)
right_size auth secret p None h g = absurd (false≢true g)

pub mac_eighteen : (auth secret p : List ℕ) → bad_mac auth secret p ≡ false → any (kind_is 80) (attributes (area_of p)) ≡ true → size_of (first_of (kind_is 80) (attributes (area_of p))) ≡ 18
unfolding bad_mac
mac_eighteen auth secret p h g =
    let both = neither _ _ h in
    let once : count_of (kind_is 80) (attributes (area_of p)) ≤ 1 = ltb-false 1 (count_of (kind_is 80) (attributes (area_of p))) both.0 in
    right_size auth secret p (first_of (kind_is 80) (attributes (area_of p))) (sym (only (kind_is 80) (wrong_mac auth secret p) (attributes (area_of p)) once) ∙ both.1) g

-- the reply to a request that D5 and D6's first part leave is no longer than the request
pub judged_fits : (auth secret p : List ℕ) (n : ℕ) (c : Option Cause) (v : ℕ) → Sized p n → bad_mac auth secret p ≡ false → stamp_of (area_of p) ≡ Some v → reply_length p c ≤ n
judged_fits auth secret p n c v sized right stamp = reply_fits p n c sized (stamp_six (area_of p) v stamp) (mac_eighteen auth secret p right)
