-- The value of a Vendor-Specific attribute (type 26; document 02, request 01): "after the four vendor bytes comes a list of items, and an item may itself be a
-- list." An item has the form of an attribute: type, length (2 to 255, counting both), value. Places count from the value's start, in every group.
-- Assumes nothing.
use Rattle.std.specs.Prelude.{Bool, true, false, cond, ◌&&◌, ◌||◌, List, ℕ, zero, suc, ◌+◌}
use Rattle.std.specs.Prelude.{eqb, ltb, length, take, Option, Some, None, is_some, Result, Ok, Err}
use Rattle.octet_numbers.specs.Numbers.{be}
use Rattle.attr_walk.specs.declared.Attribute.{Attribute}
use Rattle.attr_walk.specs.Attributes.{walk_from, value_of, kind_is}
use Rattle.attr_vendor.specs.declared.Rates.{Rates}
use Rattle.attr_vendor.specs.declared.Vendor as D
use Rattle.attr_vendor.specs.declared.Vendor.TheVariants.{Other, Faulty, Sets}

-- reading goes on with the rates set so far, or stops at the first fault
abbrev pub on_read : Result Rates ℕ → (Rates → Result Rates ℕ) → Result Rates ℕ
on_read (Ok h) f = f h
on_read (Err p) f = Err p

-- a rate is set once; an item at this place that sets it again is at fault
abbrev pub once_at : Option ℕ → ℕ → Rates → Result Rates ℕ
once_at None at h = Ok h
once_at (Some v) at h = Err at

-- "Item 1 is the down rate and 2 the up rate (length 6, type and length included)"; any other item that is no group is at fault. v is the value that is read.
unfoldable pub rate_of : List ℕ → Attribute → Rates → Result Rates ℕ
rate_of v a h =
    cond (eqb a.size 6)
    (cond (eqb a.kind 1) (once_at h.down a.at (record { down = Some (be (a.at + 2) 4 v); up = h.up }))
    (cond (eqb a.kind 2) (once_at h.up a.at (record { down = h.down; up = Some (be (a.at + 2) 4 v) }))
    (Err a.at)))
    (Err a.at)

-- "3 is a group of items", read by g
unfoldable pub item_of : (Attribute → Rates → Result Rates ℕ) → List ℕ → Attribute → Rates → Result Rates ℕ
item_of g v a h = cond (eqb a.kind 3) (g a h) (rate_of v a h)

-- the items of v from a place on, one after the other; they fill v exactly
unfoldable pub items_from : (Attribute → Rates → Result Rates ℕ) → List ℕ → ℕ → Rates → Result Rates ℕ
items_from g v from held =
    walk_from {A = ℕ → Rates → Result Rates ℕ} (λ at h. Ok h) (λ at h. Err at)
    (λ a rest at h. on_read (item_of g v a h) (rest (a.at + a.size)))
    v from from held

-- the items of group a, which end where it ends; n more groups may be opened, a among them
unfoldable pub group_in : ℕ → List ℕ → Attribute → Rates → Result Rates ℕ
group_in zero v a h = Err a.at
group_in (suc n) v a h = items_from (group_in n (take (a.at + a.size) v)) (take (a.at + a.size) v) (a.at + 2) h

-- no rate is set
abbrev pub unset : Rates
unset = record { down = None; up = None }

-- the items after the four vendor bytes, "at most four groups deep"
abbrev pub rates_of : List ℕ → Result Rates ℕ
rates_of v = items_from (group_in 4 v) v 4 unset

abbrev pub judged : Result Rates ℕ → D.Vendor
judged (Ok h) = Sets h
judged (Err p) = Faulty p

-- what the value of a type 26 says: under four bytes it has no vendor, and is at fault; another vendor's items are not read
unfoldable pub vendor_of : List ℕ → D.Vendor
vendor_of v = cond (ltb (length v) 4) (Faulty 0) (cond (eqb (be 0 4 v) 32473) (judged (rates_of v)) Other)

-- "Another vendor is 401"
abbrev pub is_other : D.Vendor → Bool
is_other Other = true
is_other (Faulty p) = false
is_other (Sets h) = false

-- "A type 26 under length 6, any other item, a wrong length, a repeated rate or a fifth depth is 404"
abbrev pub is_faulty : D.Vendor → Bool
is_faulty Other = false
is_faulty (Faulty p) = true
is_faulty (Sets h) = false

-- "counts as a change under 402 exactly if it sets a rate"
abbrev pub sets_rate : D.Vendor → Bool
sets_rate Other = false
sets_rate (Faulty p) = false
sets_rate (Sets h) = is_some h.down || is_some h.up

-- the same of an attribute of the area s: only a type 26 is read
abbrev pub vendor_in : List ℕ → Attribute → D.Vendor
vendor_in s a = vendor_of (value_of s a)

abbrev pub other_vendor : List ℕ → Attribute → Bool
other_vendor s a = kind_is 26 a && is_other (vendor_in s a)

abbrev pub faulty_vendor : List ℕ → Attribute → Bool
faulty_vendor s a = kind_is 26 a && is_faulty (vendor_in s a)

abbrev pub sets_rate_in : List ℕ → Attribute → Bool
sets_rate_in s a = kind_is 26 a && sets_rate (vendor_in s a)
