-- Of bytes, every rate that is set fits into 32 bits: it is four of them. By the items, one after the other, and by the groups that may still be opened.
-- Assumes nothing.
use mathlib.Core.Bool.{Bool, true, false, cond}
use mathlib.Core.List.{List, [], ◌∷◌}
use Prim.Native.Nat.{ℕ, zero, suc, ◌+◌, ◌-◌, ◌^◌, ◌<◌}
use native.Mathlib.Omega.{arith}
use lib.Dec.{eqb, ltb}
use lib.ListN.{length, get_or, take, drop}
use lib.Seq.{get_or-drop}
use Rattle.octet_numbers.specs.Numbers.{be}
use Rattle.octet_numbers.specs.Runs.{part}
use Rattle.attr_walk.specs.declared.Attribute.{Attribute}
use Rattle.attr_walk.specs.declared.Step.{Step}
use Rattle.attr_walk.specs.declared.Step.TheVariants as S
use Rattle.attr_walk.specs.Attributes.{step_at, on_step, walk, walk_from, value_of}
use Rattle.std.specs.Prelude.{Option, Some, None, Result, Ok, Err}
use Rattle.attr_vendor.specs.declared.Rates.{Rates}
use Rattle.attr_vendor.specs.declared.Vendor as D
use Rattle.attr_vendor.specs.declared.Vendor.TheVariants.{Other, Faulty, Sets}
use Rattle.attr_vendor.specs.Vendor.{on_read, once_at, rate_of, item_of, items_from, group_in, unset, rates_of, judged, vendor_of}

abbrev pub Bytes : List ℕ → Type 0
Bytes l = (i : ℕ) → get_or l i 0 < 256

-- ---- parts of bytes

take_low : (m : ℕ) (l : List ℕ) → Bytes l → Bytes (take m l)
take_low zero [] h i = h i
take_low zero (x ∷ l) h i = let z : 0 < 256 = omega arith in z
take_low (suc m) [] h i = h i
take_low (suc m) (x ∷ l) h zero = h zero
take_low (suc m) (x ∷ l) h (suc i) = take_low m l (λ j. h (suc j)) i

pub value_low : (area : List ℕ) (a : Attribute) → Bytes area → Bytes (value_of area a)
unfolding value_of part
value_low area a h = take_low (a.size - 2) (drop (a.at + 2) area) (λ i. rw (get_or-drop (a.at + 2) area i 0) (h (a.at + 2 + i)))

four_low : (l : List ℕ) (at : ℕ) → Bytes l → be at 4 l < 2 ^ 32
unfolding be
four_low l at h = omega (arith, h (at + 0), h (at + 1), h (at + 2), h (at + 3))

-- ---- rates

abbrev pub LowRate : Option ℕ → Type 0
LowRate None = Unit {0}
LowRate (Some v) = v < 2 ^ 32

pub record Low (h : Rates) : Type 0 where
  pub down : LowRate h.down
  pub up : LowRate h.up

abbrev LowRead : Result Rates ℕ → Type 0
LowRead (Ok h) = Low h
LowRead (Err p) = Unit {0}

once_low : (x : Option ℕ) (at : ℕ) (h : Rates) → Low h → LowRead (once_at x at h)
once_low None at h l = l
once_low (Some v) at h l = tt

module _ (v : List ℕ) (bytes : Bytes v) where
  by_rate : (b6 b1 b2 : Bool) (a : Attribute) (h : Rates) → Low h
      → LowRead (cond b6 (cond b1 (once_at h.down a.at (record { down = Some (be (a.at + 2) 4 v); up = h.up }))
      (cond b2 (once_at h.up a.at (record { down = h.down; up = Some (be (a.at + 2) 4 v) })) (Err a.at))) (Err a.at))
  by_rate false b1 b2 a h l = tt
  by_rate true true b2 a h l = once_low h.down a.at _ (record { down = four_low v (a.at + 2) bytes; up = l.up })
  by_rate true false true a h l = once_low h.up a.at _ (record { down = l.down; up = four_low v (a.at + 2) bytes })
  by_rate true false false a h l = tt

  rate_low : (a : Attribute) (h : Rates) → Low h → LowRead (rate_of v a h)
  unfolding rate_of
  rate_low a h l = by_rate (eqb a.size 6) (eqb a.kind 1) (eqb a.kind 2) a h l

  -- ---- items, where groups are read by g
  module _ (g : Attribute → Rates → Result Rates ℕ) (group_low : (a : Attribute) (h : Rates) → Low h → LowRead (g a h)) where
    by_item : (b : Bool) (a : Attribute) (h : Rates) → Low h → LowRead (cond b (g a h) (rate_of v a h))
    by_item true a h l = group_low a h l
    by_item false a h l = rate_low a h l

    on_read_lem : (x : Result Rates ℕ) (f : Rates → Result Rates ℕ) → LowRead x → ((h : Rates) → Low h → LowRead (f h)) → LowRead (on_read x f)
    on_read_lem (Ok h) f l k = k h l
    on_read_lem (Err p) f l k = tt

    abbrev turn : Attribute → (ℕ → Rates → Result Rates ℕ) → ℕ → Rates → Result Rates ℕ
    turn a rest at h = on_read (item_of g v a h) (rest (a.at + a.size))

    abbrev walked : ℕ → ℕ → ℕ → Rates → Result Rates ℕ
    walked n at = walk {A = ℕ → Rates → Result Rates ℕ} (λ p h. Ok h) (λ p h. Err p) turn v n at

    on_step_lem : (n at : ℕ) (x : Step) → ((next p : ℕ) (h : Rates) → Low h → LowRead (walked n next p h)) → (p : ℕ) (h : Rates) → Low h
        → LowRead (on_step {A = ℕ → Rates → Result Rates ℕ} (λ p h. Ok h) (λ p h. Err p) (λ a next. turn a (walked n next)) x p h)
    unfolding item_of
    on_step_lem n at (S.Found a next) ih p h l =
        on_read_lem (item_of g v a h) (walked n next (a.at + a.size)) (by_item (eqb a.kind 3) a h l) (λ h' l'. ih next (a.at + a.size) h' l')
    on_step_lem n at S.End ih p h l = l
    on_step_lem n at S.Bad ih p h l = tt

    walk_low : (n at p : ℕ) (h : Rates) → Low h → LowRead (walked n at p h)
    walk_low zero at p h l = l
    walk_low (suc n) at p h l = on_step_lem n at (step_at v at) (λ next q h' l'. walk_low n next q h' l') p h l

    items_low : (at : ℕ) (h : Rates) → Low h → LowRead (items_from g v at h)
    unfolding items_from walk_from
    items_low at h l = walk_low (length v - at) at at h l

group_low : (n : ℕ) (v : List ℕ) → Bytes v → (a : Attribute) (h : Rates) → Low h → LowRead (group_in n v a h)
unfolding group_in
group_low zero v b a h l = tt
group_low (suc n) v b a h l =
    let u : List ℕ = take (a.at + a.size) v in
    let bu : Bytes u = take_low (a.at + a.size) v b in
    items_low u bu (group_in n u) (group_low n u bu) (a.at + 2) h l

-- ---- the rates of a type 26

abbrev pub LowVendor : D.Vendor → Type 0
LowVendor Other = Unit {0}
LowVendor (Faulty p) = Unit {0}
LowVendor (Sets h) = Low h

judged_low : (x : Result Rates ℕ) → LowRead x → LowVendor (judged x)
judged_low (Ok h) l = l
judged_low (Err p) l = tt

by_vendor : (b c : Bool) (x : Result Rates ℕ) → LowRead x → LowVendor (cond b (Faulty 0) (cond c (judged x) Other))
by_vendor true c x l = tt
by_vendor false true x l = judged_low x l
by_vendor false false x l = tt

pub unset_low : Low unset
unset_low = record { down = tt; up = tt }

pub vendor_low : (v : List ℕ) → Bytes v → LowVendor (vendor_of v)
unfolding vendor_of
vendor_low v b = by_vendor (ltb (length v) 4) (eqb (be 0 4 v) 32473) (rates_of v) (items_low v b (group_in 4 v) (group_low 4 v b) 4 unset unset_low)
