-- A block as a window on a message that grows: a part laid after the message is seen where it overlaps the window. The three cases go by
-- where the part begins: before the window, in it, or after it. Assumes nothing.
use mathlib.Core.Path.{◌≡◌, sym, ap, ◌∙◌}
use mathlib.Core.List.{List, [], ◌++◌}
use Prim.Native.Nat.{ℕ, ◌+◌, ◌-◌, ◌<◌, ◌≤◌}
use native.Mathlib.Omega.{arith}
use lib.ListN.{length, take, drop, replicate, length-take, length-drop, drop_of_length-le}
use lib.Seq.{take-nil, drop-nil, take_all, take-append-le, take-append-add, drop-append-le, drop-append-add}
use Rattle.octet_numbers.specs.Runs.{part, write}
use Rattle.octet_numbers.proofs.Write.{write_nil, write_then, write_whole}
use Rattle.packet_blocks.specs.Window.{window}

part_short : (i n : ℕ) (l : List ℕ) → length (part i n l) ≤ n
unfolding part
part_short i n l = simp length-take (omega arith)

-- a part is within the buffer
pub part_fits : (b v r : List ℕ) (i j : ℕ) → r ≡ part j (64 - i) v → length b ≡ 64 → i < 64 → i + length r ≤ length b
part_fits b v r i j e l h = let s : length r ≤ 64 - i = rw e (part_short j (64 - i) v) in omega arith

-- nothing yet
pub window-none : (s : ℕ) → replicate 64 0 ≡ window s []
unfolding window part
window-none s = rw (drop-nil {A = ℕ} s) (write_nil (replicate 64 0) 0)

-- a window that the message fills
pub window_full : (s : ℕ) (m : List ℕ) → length (part s 64 m) ≡ 64 → window s m ≡ part s 64 m
unfolding window
window_full s m l = write_whole (replicate 64 0) (part s 64 m) l

module _ (s at : ℕ) (m v b : List ℕ) (long : length m ≡ at) (held : b ≡ window s m) where
  -- the part begins before the window
  pub laid_before : (b' r : List ℕ) → at < s → r ≡ part (s - at) 64 v → b' ≡ write b 0 r → b' ≡ window s (m ++ v)
  unfolding window part
  laid_before b' r h g e =
      let z : drop s m ≡ [] = drop_of_length-le m {i = s} (omega arith) in
      let i : s ≡ length m + (s - at) = omega arith in
      let d : drop s (m ++ v) ≡ drop (s - at) v = ap (λ (k : ℕ). drop k (m ++ v)) i ∙ drop-append-add m v (s - at) in
      let none : b ≡ replicate 64 0 = held ∙ rw (z, take-nil {A = ℕ} 64) (sym (write_nil (replicate 64 0) 0)) in
      e ∙ rw (g, none, d)

  -- it begins in the window
  pub laid_in : (b' r : List ℕ) (i : ℕ) → s ≤ at → i ≡ at - s → i < 64 → r ≡ part 0 (64 - i) v → b' ≡ write b i r → b' ≡ window s (m ++ v)
  unfolding window part
  laid_in b' r i h j l g e =
      let ld : length (drop s m) ≡ i = simp length-drop (omega arith) in
      let here : take 64 (drop s m) ≡ drop s m = take_all 64 (drop s m) (omega arith) in
      let sum : 64 ≡ length (drop s m) + (64 - i) = omega arith in
      let d : take 64 (drop s (m ++ v)) ≡ drop s m ++ take (64 - i) v =
      ap (take 64) (drop-append-le s m v (omega arith)) ∙ ap (λ (k : ℕ). take k (drop s m ++ v)) sum ∙ take-append-add (drop s m) v (64 - i) in
      rw d (write_then b b' (replicate 64 0) 0 i (drop s m) (take (64 - i) v) (held ∙ rw here) (e ∙ rw g) (omega arith))

  -- it begins after the window
  pub laid_after : (i : ℕ) → s ≤ at → i ≡ at - s → 64 ≤ i → b ≡ window s (m ++ v)
  unfolding window part
  laid_after i h j l =
      held ∙ rw (drop-append-le s m v (omega arith), take-append-le 64 (drop s m) v (simp length-drop (omega arith)))
