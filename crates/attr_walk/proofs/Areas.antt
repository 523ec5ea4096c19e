-- Areas made of parts: what one area after another holds, and the area of one attribute. A walk over both is the one over the second at the end of the first.
-- Assumes nothing.
use mathlib.Core.Path.{◌≡◌, refl, sym, ap, ◌∙◌}
use mathlib.Core.Bool.{Bool, true, false}
use mathlib.Core.List.{List, [], ◌∷◌, ◌++◌, map, foldr}
use Prim.Native.Nat.{ℕ, zero, suc, ◌+◌, ◌-◌, ◌≤◌}
use native.Mathlib.Nat.{zero-add, add_assoc}
use native.Mathlib.Omega.{arith}
use lib.ListN.{length, get_or, take, drop, length-drop}
use lib.Seq.{length-take-le, take-length, drop-append-add, drop-cons}
use Rattle.octet_numbers.specs.Runs.{part}
use Rattle.attr_walk.specs.declared.Attribute.{Attribute}
use Rattle.attr_walk.specs.declared.Step.{Step}
use Rattle.attr_walk.specs.declared.Step.TheVariants.{Found, End, Bad}
use Rattle.attr_walk.specs.Attributes.{step_at, on_step, value_of, walk, walk_from, attributes, tiled, shifted, bytes_of}
use Rattle.attr_walk.proofs.Steps.{Placed, step_end, step-found}
use Rattle.attr_walk.proofs.Walks.{walk_end, walk-found}
use Rattle.attr_walk.proofs.Joins.{walk_both}

-- ---- one area after another

fold_last : (z : Bool) (l : List Attribute) → foldr (λ a rest. rest) z l ≡ z
fold_last z [] = refl
fold_last z (a ∷ l) = fold_last z l

fold_append : (z l : List Attribute) → foldr (λ a rest. a ∷ rest) z l ≡ l ++ z
fold_append z [] = refl
fold_append z (a ∷ l) = ap (λ (m : List Attribute). a ∷ m) (fold_append z l)

module _ (g : Attribute → Attribute) (s : List ℕ) where
  map-step : (n : ℕ) → ((next : ℕ) → walk [] [] (λ a rest. g a ∷ rest) s n next ≡ map g (walk [] [] (λ a rest. a ∷ rest) s n next)) → (x : Step)
      → on_step [] [] (λ a next. g a ∷ walk [] [] (λ a rest. g a ∷ rest) s n next) x ≡ map g (on_step [] [] (λ a next. a ∷ walk [] [] (λ a rest. a ∷ rest) s n next) x)
  map-step n ih (Found a next) = ap (λ (l : List Attribute). g a ∷ l) (ih next)
  map-step n ih End = refl
  map-step n ih Bad = refl

  map-walk : (n at : ℕ) → walk [] [] (λ a rest. g a ∷ rest) s n at ≡ map g (walk [] [] (λ a rest. a ∷ rest) s n at)
  map-walk zero at = refl
  map-walk (suc n) at = map-step n (map-walk n) (step_at s at)

  map-attributes : walk_from [] [] (λ a rest. g a ∷ rest) s 0 ≡ map g (attributes s)
  unfolding walk_from
  map-attributes = map-walk (length s - 0) 0

module _ (xs ys : List ℕ) (t : tiled xs ≡ true) where
  pub tiled-append : tiled (xs ++ ys) ≡ tiled ys
  tiled-append = walk_both true false (λ a rest. rest) xs ys t ∙ fold_last (tiled ys) (attributes xs)

  pub attributes-append : attributes (xs ++ ys) ≡ attributes xs ++ map (shifted (length xs)) (attributes ys)
  attributes-append =
      walk_both [] [] (λ a rest. a ∷ rest) xs ys t
      ∙ fold_append (walk_from [] [] (λ a rest. shifted (length xs) a ∷ rest) ys 0) (attributes xs)
      ∙ ap (λ (l : List Attribute). attributes xs ++ l) (map-attributes (shifted (length xs)) ys)

  -- each fills its own, so both fill all
  pub tiled_both : tiled ys ≡ true → tiled (xs ++ ys) ≡ true
  tiled_both u = tiled-append ∙ u

-- no attributes: they tile
pub nil_tiled : tiled [] ≡ true
nil_tiled = walk_end true false (λ a rest. rest) [] 0 (step_end [] 0 (omega arith))

pub nil_attributes : attributes [] ≡ []
nil_attributes = walk_end [] [] (λ a rest. a ∷ rest) [] 0 (step_end [] 0 (omega arith))

-- ---- values

-- of an attribute in the second area
pub value_after : (xs ys : List ℕ) (a : Attribute) → value_of (xs ++ ys) (shifted (length xs) a) ≡ value_of ys a
unfolding value_of part
value_after xs ys a = rw (add_assoc (length xs) a.at 2) (ap (take (a.size - 2)) (drop-append-add xs ys (a.at + 2)))

-- ---- one attribute, type k and value v

abbrev pub lone : ℕ → List ℕ → Attribute
lone k v = record { kind = k; at = 0; size = length v + 2 }

module _ (k : ℕ) (v : List ℕ) where
  pub bytes_step : step_at (bytes_of k v) 0 ≡ Found (lone k v) (length v + 2)
  bytes_step = step-found (bytes_of k v) 0 (omega arith) (omega arith) (omega arith) ∙ ap (Found (lone k v)) (zero-add (length v + 2))

  bytes_end : step_at (bytes_of k v) (length v + 2) ≡ End
  bytes_end = step_end (bytes_of k v) (length v + 2) (omega arith)

  pub bytes_tiled : tiled (bytes_of k v) ≡ true
  bytes_tiled = walk-found true false (λ a rest. rest) (bytes_of k v) 0 (lone k v) (length v + 2) bytes_step ∙ walk_end true false (λ a rest. rest) (bytes_of k v) (length v + 2) bytes_end

  pub bytes_attributes : attributes (bytes_of k v) ≡ lone k v ∷ []
  bytes_attributes =
      walk-found [] [] (λ a rest. a ∷ rest) (bytes_of k v) 0 (lone k v) (length v + 2) bytes_step
      ∙ ap (λ (l : List Attribute). lone k v ∷ l) (walk_end [] [] (λ a rest. a ∷ rest) (bytes_of k v) (length v + 2) bytes_end)

  pub bytes_value : value_of (bytes_of k v) (lone k v) ≡ v
  unfolding value_of part
  bytes_value = let e : length v + 2 - 2 ≡ length v = omega arith in rw e (take-length v)

-- the bytes of a found attribute are its type, its length and its value
head_two : (s : List ℕ) (i m : ℕ) → i + 2 + m ≤ length s → take (m + 2) (drop i s) ≡ get_or s i 0 ∷ (get_or s (i + 1) 0 ∷ take m (drop (i + 2) s))
head_two s i m h =
    let one : i + 1 ≡ suc i = omega arith in
    let two : i + 2 ≡ suc (suc i) = omega arith in
    let more : m + 2 ≡ suc (suc m) = omega arith in
    rw (one, two, more, drop-cons s i 0 (omega arith), drop-cons s (suc i) 0 (omega arith))

pub placed_bytes : (s : List ℕ) (at : ℕ) (a : Attribute) (next : ℕ) → Placed s at a next → part a.at a.size s ≡ bytes_of a.kind (value_of s a)
unfolding value_of part
placed_bytes s at a next p =
    let z : a.size ≡ a.size - 2 + 2 = omega arith in
    let l : length (take (a.size - 2) (drop (a.at + 2) s)) ≡ a.size - 2 = length-take-le (a.size - 2) (drop (a.at + 2) s) (rw length-drop (omega arith)) in
    let k : get_or s a.at 0 ≡ a.kind = rw p.place (sym p.kind) in
    let n : get_or s (a.at + 1) 0 ≡ length (take (a.size - 2) (drop (a.at + 2) s)) + 2 = rw p.place (sym p.size) ∙ z ∙ ap (λ (x : ℕ). x + 2) (sym l) in
    ap (λ (x : ℕ). take x (drop a.at s)) z ∙ head_two s a.at (a.size - 2) (omega arith)
    ∙ ap (λ (x : ℕ). x ∷ (get_or s (a.at + 1) 0 ∷ take (a.size - 2) (drop (a.at + 2) s))) k
    ∙ ap (λ (x : ℕ). a.kind ∷ (x ∷ take (a.size - 2) (drop (a.at + 2) s))) n
