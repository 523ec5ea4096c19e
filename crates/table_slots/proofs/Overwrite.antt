-- Writes to one run: a write within bytes just written is a write to those bytes, and a part written where it lies changes nothing.
-- A write is a run of single stores, so the first law goes by induction on the stores.
-- Assumes nothing.
use mathlib.Core.Path.{◌≡◌, refl, sym, ap, ◌∙◌}
use mathlib.Core.List.{List, [], ◌∷◌}
use Prim.Native.Nat.{ℕ, zero, suc, ◌+◌, ◌≤◌, ◌<◌}
use native.Mathlib.Nat.{add-zero, add-suc, suc-add}
use native.Mathlib.Omega.{arith}
use lib.ListN.{length, set, length-set, take-append-drop}
use lib.Seq.{sets, set-set, take-add}
use Rattle.octet_numbers.specs.Runs.{part, write}
use Rattle.octet_numbers.proofs.Part.{length_part}
use Rattle.octet_numbers.proofs.Write.{set_before, write_eq}

-- a store within a run of stores
store_in : (s l : List ℕ) (m i a : ℕ) → i < length s → set (sets l m s) (m + i) a ≡ sets l m (set s i a)
store_in [] l m i a h = absurd (omega arith)
store_in (x ∷ s) l m zero a h =
    ap (λ (k : ℕ). set (sets (set l m x) (suc m) s) k a) (add-zero m)
    ∙ set_before s (set l m x) m (suc m) a (omega arith)
    ∙ ap (λ (u : List ℕ). sets u (suc m) s) (set-set l m x a)
store_in (x ∷ s) l m (suc i) a h =
    ap (λ (k : ℕ). set (sets (set l m x) (suc m) s) k a) (add-suc m i ∙ sym (suc-add m i))
    ∙ store_in s (set l m x) (suc m) i a (omega arith)

within : (vs s l : List ℕ) (m i : ℕ) → i + length vs ≤ length s → sets (sets l m s) (m + i) vs ≡ sets l m (sets s i vs)
within [] s l m i h = refl
within (v ∷ vs) s l m i h =
    ap (λ (u : List ℕ). sets u (suc (m + i)) vs) (store_in s l m i v (omega arith))
    ∙ ap (λ (k : ℕ). sets (sets l m (set s i v)) k vs) (sym (add-suc m i))
    ∙ within vs (set s i v) l m (suc i) (rw length-set (omega arith))

pub write_in : (l s : List ℕ) (m i : ℕ) (vs : List ℕ) → i + length vs ≤ length s → write (write l m s) (m + i) vs ≡ write l m (write s i vs)
unfolding write
write_in l s m i vs h = within vs s l m i h

-- a part written where it lies
pub write_same : (l : List ℕ) (m n : ℕ) → m + n ≤ length l → l ≡ write l m (part m n l)
unfolding part
write_same l m n h =
    let e : length (part m n l) ≡ n = length_part m n l h in
    sym (write_eq l m (part m n l) (omega arith) ∙ rw (e, ← (take-add m n l)) (take-append-drop (m + n) l))
