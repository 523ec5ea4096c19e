-- How many bytes the attributes of an area take, all of them and those that pass a test. They stand one after the other, so all of them take no more than the area has;
-- an attribute has one type, so types do not share bytes. Assumes nothing.
use mathlib.Core.Path.{◌≡◌, refl}
use mathlib.Core.Bool.{Bool, true, false, cond}
use mathlib.Core.List.{List, [], ◌∷◌, ◌++◌}
use Prim.Native.Nat.{ℕ, zero, suc, ◌+◌, ◌-◌, ◌≤◌}
use native.Mathlib.Omega.{arith}
use borrow.Author.Tests.{eqb-true, ne_eqb}
use lib.Dec.{eqb}
use lib.ListN.{length, length-append, length-take}
use Rattle.octet_numbers.specs.Runs.{part}
use Rattle.attr_walk.specs.declared.Attribute.{Attribute}
use Rattle.std.specs.Prelude.{Option, Some, None}
use Rattle.attr_walk.specs.declared.Step.{Step}
use Rattle.attr_walk.specs.declared.Step.TheVariants.{Found, End, Bad}
use Rattle.attr_walk.specs.Attributes.{step_at, on_step, walk, walk_from, attributes, first_of, kind_is}
use Rattle.attr_walk.proofs.Steps.{step_inv}
use Rattle.attr_survey.specs.Survey.{size_of}
use Rattle.das_reply_parts.specs.Reply.{as_came, if_found, proxies_in}

-- the bytes of all, and of those that pass a test
abbrev pub total : List Attribute → ℕ
total [] = 0
total (a ∷ l) = a.size + total l

abbrev pub sum_of : (Attribute → Bool) → List Attribute → ℕ
sum_of p [] = 0
sum_of p (a ∷ l) = cond (p a) a.size 0 + sum_of p l

-- ---- all of them, in the area

abbrev turns : List ℕ → ℕ → ℕ → List Attribute
turns s n at = walk [] [] (λ a rest. a ∷ rest) s n at

by_step : (s : List ℕ) (n at : ℕ) (x : Step) → step_at s at ≡ x → ((next : ℕ) → total (turns s n next) ≤ length s - next)
    → total (on_step [] [] (λ a next. a ∷ turns s n next) x) ≤ length s - at
by_step s n at (Found a next) q ih =
    let p = step_inv s at a next q in
    let r = ih next in
    omega arith
by_step s n at End q ih = omega arith
by_step s n at Bad q ih = omega arith

by_turns : (s : List ℕ) (n at : ℕ) → total (turns s n at) ≤ length s - at
by_turns s zero at = omega arith
by_turns s (suc n) at = by_step s n at (step_at s at) refl (by_turns s n)

pub total_fits : (s : List ℕ) → total (attributes s) ≤ length s
unfolding walk_from
total_fits s = omega (arith, by_turns s (length s - 0) 0)

-- ---- the first that passes a test, and every Proxy-State

first_case : (t : Bool) (a : Attribute) (x : Option Attribute) (n : ℕ) → size_of x ≤ n → size_of (cond t (Some a) x) ≤ cond t a.size 0 + n
first_case true a x n h = omega arith
first_case false a x n h = omega arith

pub first_size : (p : Attribute → Bool) (l : List Attribute) → size_of (first_of p l) ≤ sum_of p l
first_size p [] = omega arith
first_size p (a ∷ l) = first_case (p a) a (first_of p l) (sum_of p l) (first_size p l)

pub length-as_came : (s : List ℕ) (a : Attribute) → length (as_came s a) ≤ a.size
unfolding part
length-as_came s a = simp length-take (omega arith)

pub length_found : (s : List ℕ) (x : Option Attribute) → length (if_found s x) ≤ size_of x
length_found s (Some a) = length-as_came s a
length_found s None = omega arith

proxy_case : (t : Bool) (came rest : List ℕ) (z n : ℕ) → length came ≤ z → length rest ≤ n → length (cond t (came ++ rest) rest) ≤ cond t z 0 + n
proxy_case true came rest z n h g = rw length-append (omega arith)
proxy_case false came rest z n h g = omega arith

pub length_proxies : (s : List ℕ) (l : List Attribute) → length (proxies_in s l) ≤ sum_of (kind_is 33) l
length_proxies s [] = omega arith
length_proxies s (a ∷ l) = proxy_case (kind_is 33 a) (as_came s a) (proxies_in s l) a.size (sum_of (kind_is 33) l) (length-as_came s a) (length_proxies s l)

-- ---- types do not share bytes

-- a type more: where it is k, no other is
more : (k j z n : ℕ) (b : Bool) → eqb k j ≡ b → (k ≡ j → n ≡ 0) → n ≤ z → cond b z 0 + n ≤ z
more k j z n true e f h = omega (arith, f (eqb-true k j e))
more k j z n false e f h = omega arith

one : (k z : ℕ) → cond (eqb k 24) z 0 + (cond (eqb k 33) z 0 + (cond (eqb k 55) z 0 + (cond (eqb k 80) z 0 + 0))) ≤ z
one k z =
    let last : cond (eqb k 80) z 0 + 0 ≤ z = more k 80 z 0 (eqb k 80) refl (λ e. refl) (omega arith) in
    let third : cond (eqb k 55) z 0 + (cond (eqb k 80) z 0 + 0) ≤ z = more k 55 z _ (eqb k 55) refl (λ e. rw (ne_eqb k 80 (λ g. omega arith))) last in
    let second : cond (eqb k 33) z 0 + (cond (eqb k 55) z 0 + (cond (eqb k 80) z 0 + 0)) ≤ z =
    more k 33 z _ (eqb k 33) refl (λ e. rw (ne_eqb k 55 (λ g. omega arith), ne_eqb k 80 (λ g. omega arith))) third in
    more k 24 z _ (eqb k 24) refl (λ e. rw (ne_eqb k 33 (λ g. omega arith), ne_eqb k 55 (λ g. omega arith), ne_eqb k 80 (λ g. omega arith))) second

pub four_types : (l : List Attribute) → sum_of (kind_is 24) l + sum_of (kind_is 33) l + sum_of (kind_is 55) l + sum_of (kind_is 80) l ≤ total l
four_types [] = omega arith
four_types (a ∷ l) = omega (arith, one a.kind a.size, four_types l)
