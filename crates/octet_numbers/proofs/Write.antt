-- What a write leaves: its length, the bytes it wrote and the bytes beside them; two writes to places apart commute. A write is a run of single stores, so each law goes by induction on the bytes written.
-- Assumes nothing.
use mathlib.Core.Path.{◌≡◌, refl, sym, ap, ◌∙◌}
use mathlib.Core.List.{List, [], ◌∷◌, ◌++◌, append-nil}
use Prim.Native.Nat.{ℕ, zero, suc, ◌+◌, ◌-◌, ◌≤◌, ◌<◌}
use native.Mathlib.Nat.{add-zero, zero-add, add-suc, suc-add}
use native.Mathlib.Numerals.{add-one}
use native.Mathlib.Omega.{arith}
use lib.ListN.{length, length-append, get_or, take, drop, set, length-set}
use lib.Seq.{take_at, take-length, drop-length, sets, length-sets, sets-eq, length-take-le, get_or-set_same, get_or-set_other, set_comm}
use borrow.Rule.Slice.PartMut.{put_mid}
use Rattle.std.proofs.lemmas.Slice.{put_mid-paste}
use Rattle.octet_numbers.specs.Runs.{write}

pub length-write : (l : List ℕ) (i : ℕ) (vs : List ℕ) → length (write l i vs) ≡ length l
unfolding write
length-write l i vs = length-sets l i vs

-- the length, from a loop's equation
pub write_long : (t l : List ℕ) (i : ℕ) (vs : List ℕ) → t ≡ write l i vs → length t ≡ length l
write_long t l i vs e = ap length e ∙ length-write l i vs

pub write_nil : (l : List ℕ) (i : ℕ) → l ≡ write l i []
unfolding write
write_nil l i = refl

pub write_one : (l : List ℕ) (i a : ℕ) → set l i a ≡ write l i (a ∷ [])
unfolding write
write_one l i a = refl

pub write_cons : (l : List ℕ) (i a : ℕ) (vs : List ℕ) → write l i (a ∷ vs) ≡ write (set l i a) (i + 1) vs
unfolding write
write_cons l i a vs = rw add-one

sets-append : (vs ws l : List ℕ) (i : ℕ) → sets l i (vs ++ ws) ≡ sets (sets l i vs) (i + length vs) ws
sets-append [] ws l i = rw add-zero
sets-append (a ∷ vs) ws l i = sets-append vs ws (set l i a) (suc i) ∙ rw (add-suc, suc-add)

-- a run of stores is that of its first part and then of its second
pub write-append : (l : List ℕ) (i : ℕ) (vs ws : List ℕ) → write l i (vs ++ ws) ≡ write (write l i vs) (i + length vs) ws
unfolding write
write-append l i vs ws = sets-append vs ws l i

-- a second write, where the first ended
pub write_then : (t t' l : List ℕ) (i j : ℕ) (vs ws : List ℕ) → t ≡ write l i vs → t' ≡ write t j ws → j ≡ i + length vs → t' ≡ write l i (vs ++ ws)
write_then t t' l i j vs ws e g h = g ∙ rw (e, h) (sym (write-append l i vs ws))

-- a store before a run of stores, made after it
pub set_before : (ws l : List ℕ) (i j a : ℕ) → i < j → set (sets l j ws) i a ≡ sets (set l i a) j ws
set_before [] l i j a h = refl
set_before (w ∷ ws) l i j a h = set_before ws (set l j w) i (suc j) a (omega arith) ∙ ap (λ (u : List ℕ). sets u (suc j) ws) (set_comm l j i w a (λ e. omega arith))

apart : (vs ws l : List ℕ) (i j : ℕ) → i + length vs ≤ j → sets (sets l j ws) i vs ≡ sets (sets l i vs) j ws
apart [] ws l i j h = refl
apart (v ∷ vs) ws l i j h = ap (λ (u : List ℕ). sets u (suc i) vs) (set_before ws l i j v (omega arith)) ∙ apart vs ws (set l i v) (suc i) j (omega arith)

-- two writes that do not meet
pub write_apart : (l : List ℕ) (i j : ℕ) (vs ws : List ℕ) → i + length vs ≤ j → write (write l j ws) i vs ≡ write (write l i vs) j ws
unfolding write
write_apart l i j vs ws h = apart vs ws l i j h

-- a write of the whole list
pub write_whole : (l vs : List ℕ) → length vs ≡ length l → write l 0 vs ≡ vs
unfolding write
write_whole l vs e = sets-eq vs l 0 (omega arith) ∙ rw (zero-add, e, drop-length) (append-nil vs)

-- a write within the list, in pieces
pub write_eq : (l : List ℕ) (i : ℕ) (vs : List ℕ) → i + length vs ≤ length l → write l i vs ≡ take i l ++ vs ++ drop (i + length vs) l
unfolding write
write_eq l i vs h = sets-eq vs l i h

-- a copy over the part of t from i to e: the part then holds vs
pub copied_over : (i e : ℕ) (l xs vs : List ℕ) → xs ≡ vs → i + length vs ≡ e → e ≤ length l → put_mid i (e - i) l xs ≡ write l i vs
copied_over i e l xs vs eq h g =
    put_mid-paste i (e - i) l xs vs (length vs) eq (omega arith) refl ∙ rw take-length (sym (write_eq l i vs (omega arith)))

-- a write to the end of the list
pub write_end : (t l : List ℕ) (i : ℕ) (vs : List ℕ) → t ≡ write l i vs → i + length vs ≡ length l → t ≡ take i l ++ vs
write_end t l i vs e h = e ∙ write_eq l i vs (omega arith) ∙ rw (h, drop-length, append-nil)

-- up to the end of what was written
pub take-write : (l : List ℕ) (i : ℕ) (vs : List ℕ) → i + length vs ≤ length l → take (i + length vs) (write l i vs) ≡ take i l ++ vs
take-write l i vs h =
    let long : length (take i l ++ vs) ≡ i + length vs = rw (length-append, length-take-le i l (omega arith)) in
    rw (write_eq l i vs h) (take_at (take i l ++ vs) (drop (i + length vs) l) (i + length vs) long)

-- ---- single bytes

before : (vs l : List ℕ) (i k : ℕ) → k < i → get_or (sets l i vs) k 0 ≡ get_or l k 0
before [] l i k h = refl
before (a ∷ vs) l i k h = before vs (set l i a) (suc i) k (omega arith) ∙ get_or-set_other l i k a 0 (λ e. omega arith)

past_written : (vs l : List ℕ) (i k : ℕ) → i + length vs ≤ k → get_or (sets l i vs) k 0 ≡ get_or l k 0
past_written [] l i k h = refl
past_written (a ∷ vs) l i k h = past_written vs (set l i a) (suc i) k (omega arith) ∙ get_or-set_other l i k a 0 (λ e. omega arith)

within : (vs l : List ℕ) (i j : ℕ) → j < length vs → i + length vs ≤ length l → get_or (sets l i vs) (i + j) 0 ≡ get_or vs j 0
within (a ∷ vs) l i zero h r = rw add-zero (before vs (set l i a) (suc i) i (omega arith) ∙ get_or-set_same l i a 0 (omega arith))
within (a ∷ vs) l i (suc j) h r = rw (add-suc, ← (suc-add i j)) (within vs (set l i a) (suc i) j (omega arith) (rw length-set (omega arith)))
within [] l i j h r = absurd (omega arith)

-- a byte before what was written, after it, and within it
pub byte_before : (l : List ℕ) (i : ℕ) (vs : List ℕ) (k : ℕ) → k < i → get_or (write l i vs) k 0 ≡ get_or l k 0
unfolding write
byte_before l i vs k h = before vs l i k h

pub byte_after : (l : List ℕ) (i : ℕ) (vs : List ℕ) (k : ℕ) → i + length vs ≤ k → get_or (write l i vs) k 0 ≡ get_or l k 0
unfolding write
byte_after l i vs k h = past_written vs l i k h

pub byte_within : (l : List ℕ) (i : ℕ) (vs : List ℕ) (j : ℕ) → j < length vs → i + length vs ≤ length l → get_or (write l i vs) (i + j) 0 ≡ get_or vs j 0
unfolding write
byte_within l i vs j h r = within vs l i j h r
