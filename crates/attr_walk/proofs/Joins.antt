-- One area after another: in the first nothing changes, and in the second all places move by the first's length, so a walk over both is the one over the second at the end of the first.
-- Assumes nothing.
use mathlib.Core.Path.{◌≡◌, refl, sym, ap, ◌∙◌}
use mathlib.Core.Bool.{Bool, true, false, cond, ◌&&◌, false≢true}
use mathlib.Core.List.{List, ◌++◌, foldr}
use Prim.Native.Nat.{ℕ, zero, suc, ◌+◌, ◌-◌, ◌≤◌, ◌<◌}
use native.Mathlib.Nat.{add-zero, add_assoc}
use native.Mathlib.Omega.{arith}
use lib.Dec.{leb}
use lib.ListN.{length, get_or, length-append, get_or-append}
use lib.Seq.{get_or-append-add}
use borrow.Author.Tests.{le-leb, lt-leb, leb-true, leb-false}
use Rattle.attr_walk.specs.declared.Attribute.{Attribute}
use Rattle.attr_walk.specs.declared.Step.{Step}
use Rattle.attr_walk.specs.declared.Step.TheVariants.{Found, End, Bad}
use Rattle.attr_walk.specs.Attributes.{length_at, step_at, on_step, walk, walk_from, attributes, attributes_from, tiled, tiled_from, shifted}
use Rattle.attr_walk.proofs.Steps.{step_inv, step-found, end_inv}
use Rattle.attr_walk.proofs.Walks.{walk_end, walk_bad, walk-found}

-- ---- one step

-- by its three fields
same : (a : Attribute) (kind at size : ℕ) → a.kind ≡ kind → a.at ≡ at → a.size ≡ size → record { kind = kind; at = at; size = size } ≡ a
same a kind at size e f g = rw (← e, ← f, ← g)

-- an attribute of the first area is found in both
pub step_before : (xs ys : List ℕ) (at : ℕ) (a : Attribute) (next : ℕ) → step_at xs at ≡ Found a next → step_at (xs ++ ys) at ≡ Found a next
step_before xs ys at a next q =
    let p = step_inv xs at a next q in
    let n = length-append xs ys in
    let k : get_or (xs ++ ys) at 0 ≡ get_or xs at 0 = get_or-append xs ys 0 at (omega arith) in
    let l : length_at (xs ++ ys) at ≡ length_at xs at = get_or-append xs ys 0 (at + 1) (omega arith) in
    let r = step-found (xs ++ ys) at (omega arith) (omega arith) (omega arith) in
    let i : record { kind = get_or (xs ++ ys) at 0; at = at; size = length_at (xs ++ ys) at } ≡ a = same a _ _ _ (p.kind ∙ sym k) p.place (p.size ∙ sym l) in
    let e : at + length_at (xs ++ ys) at ≡ next = omega arith in
    r ∙ ap (λ (x : Attribute). Found x (at + length_at (xs ++ ys) at)) i ∙ ap (Found a) e

-- the same step, n places further on
abbrev onward : ℕ → Step → Step
onward n x = on_step End Bad (λ a next. Found (shifted n a) (n + next)) x

onward_cond : (n at k z : ℕ) (t u : Bool) → onward n (cond t End (cond u (Found (record { kind = k; at = at; size = z }) (at + z)) Bad))
    ≡ cond t End (cond u (Found (record { kind = k; at = n + at; size = z }) (n + at + z)) Bad)
onward_cond n at k z true u = refl
onward_cond n at k z false true = ap (Found (record { kind = k; at = n + at; size = z })) (sym (add_assoc n at z))
onward_cond n at k z false false = refl

leb_add : (n a b : ℕ) → leb (n + a) (n + b) ≡ leb a b
leb_add n a b = by_test (leb a b) refl
  where
    by_test : (t : Bool) → leb a b ≡ t → leb (n + a) (n + b) ≡ t
    by_test true e = le-leb (n + a) (n + b) (let h = leb-true a b e in omega arith)
    by_test false e = lt-leb (n + a) (n + b) (let h = leb-false a b e in omega arith)

pub step_after : (xs ys : List ℕ) (at : ℕ) → step_at (xs ++ ys) (length xs + at) ≡ onward (length xs) (step_at ys at)
unfolding step_at
step_after xs ys at =
    let l : length_at (xs ++ ys) (length xs + at) ≡ length_at ys at = ap (λ (i : ℕ). get_or (xs ++ ys) i 0) (add_assoc (length xs) at 1) ∙ get_or-append-add xs ys (at + 1) 0 in
    let d : length xs + length ys - (length xs + at) ≡ length ys - at = omega arith in
    rw (l, get_or-append-add xs ys at 0, length-append xs ys, leb_add (length xs) (length ys) at, d)
    (sym (onward_cond (length xs) at (get_or ys at 0) (length_at ys at) (leb (length ys) at) (leb 2 (length_at ys at) && leb (length_at ys at) (length ys - at))))

-- ---- a walk

module _ {ℓ} {A : Type ℓ} (e b : A) (f : Attribute → A → A) (xs ys : List ℕ) where
  turn-after : (n : ℕ) → ((next : ℕ) → walk e b f (xs ++ ys) n (length xs + next) ≡ walk e b (λ a. f (shifted (length xs) a)) ys n next) → (x : Step)
      → on_step e b (λ a next. f a (walk e b f (xs ++ ys) n next)) (onward (length xs) x) ≡ on_step e b (λ a next. f (shifted (length xs) a) (walk e b (λ a. f (shifted (length xs) a)) ys n next)) x
  turn-after n ih (Found a next) = ap (f (shifted (length xs) a)) (ih next)
  turn-after n ih End = refl
  turn-after n ih Bad = refl

  turns_after : (n at : ℕ) → walk e b f (xs ++ ys) n (length xs + at) ≡ walk e b (λ a. f (shifted (length xs) a)) ys n at
  turns_after zero at = refl
  turns_after (suc n) at = rw (step_after xs ys at) (turn-after n (turns_after n) (step_at ys at))

  -- over the second area
  pub walk_after : (at : ℕ) → walk_from e b f (xs ++ ys) (length xs + at) ≡ walk_from e b (λ a. f (shifted (length xs) a)) ys at
  unfolding walk_from
  walk_after at =
      let d : length xs + length ys - (length xs + at) ≡ length ys - at = omega arith in
      rw (length-append xs ys, d) (turns_after (length ys - at) at)

  -- what a walk over both is, from a place of the first on
  abbrev Walks-on : ℕ → Type ℓ
  Walks-on at = walk_from e b f (xs ++ ys) at ≡ foldr f (walk_from e b f (xs ++ ys) (length xs)) (attributes_from xs at)

  turn_before : (at : ℕ) → at ≤ length xs → tiled_from xs at ≡ true → (x : Step) → step_at xs at ≡ x → ((next : ℕ) → at < next → next ≤ length xs → tiled_from xs next ≡ true → Walks-on next) → Walks-on at
  turn_before at h t (Found a next) q ih =
      let p = step_inv xs at a next q in
      walk-found e b f (xs ++ ys) at a next (step_before xs ys at a next q)
      ∙ ap (f a) (ih next p.later p.inside (sym (walk-found _ _ _ xs at a next q) ∙ t))
      ∙ sym (ap (foldr f (walk_from e b f (xs ++ ys) (length xs))) (walk-found _ _ _ xs at a next q))
  turn_before at h t End q ih =
      let g = end_inv xs at q in
      let i : at ≡ length xs = omega arith in
      ap (walk_from e b f (xs ++ ys)) i ∙ sym (ap (foldr f (walk_from e b f (xs ++ ys) (length xs))) (walk_end _ _ _ xs at q))
  turn_before at h t Bad q ih = absurd (false≢true (sym (walk_bad _ _ _ xs at q) ∙ t))

  turns_before : (n at : ℕ) → length xs ≤ at + n → at ≤ length xs → tiled_from xs at ≡ true → Walks-on at
  turns_before zero at g h t = turn_before at h t (step_at xs at) refl (λ next l m u. absurd (omega arith))
  turns_before (suc n) at g h t = turn_before at h t (step_at xs at) refl (λ next l m u. turns_before n next (omega arith) m u)

  -- over both, where attributes fill the first
  pub walk_both : tiled xs ≡ true → walk_from e b f (xs ++ ys) 0 ≡ foldr f (walk_from e b (λ a. f (shifted (length xs) a)) ys 0) (attributes xs)
  walk_both t =
      let z : walk_from e b f (xs ++ ys) (length xs) ≡ walk_from e b (λ a. f (shifted (length xs) a)) ys 0 = ap (walk_from e b f (xs ++ ys)) (sym (add-zero (length xs))) ∙ walk_after 0 in
      turns_before (length xs) 0 (omega arith) (omega arith) t ∙ ap (λ (w : A). foldr f w (attributes xs)) z
