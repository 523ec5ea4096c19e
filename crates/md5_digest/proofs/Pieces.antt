-- What a piece adds to a hash under way. Whole blocks do not see what follows them, so the words held stay those of the longer message;
-- what fills a block is hashed, and what is left stands at the start of the buffer.
-- Assumes nothing.
use mathlib.Core.Path.{◌≡◌, refl, sym, ap, ◌∙◌}
use mathlib.Core.List.{List, [], ◌++◌, append_assoc}
use Prim.Native.Nat.{ℕ, ◌+◌, ◌-◌, ◌*◌, ◌/◌, ◌%◌, ◌<◌, ◌≤◌}
use native.Mathlib.Nat.{zero-add}
use native.Mathlib.Omega.{arith}
use lib.ListN.{length, take, drop, length-append, length-drop, take-append-drop, drop_of_length-le}
use lib.Seq.{take_all, length-take-le, drop-append-le, drop-append-add}
use Rattle.octet_numbers.specs.Runs.{write}
use Rattle.octet_numbers.proofs.Write.{length-write, take-write}
use Rattle.md5_ops.specs.declared.State.{State}
use Rattle.md5_ops.specs.Md5.{after, initial, md5}
use Rattle.md5_ops.proofs.After.{after-append, after-add}
use Rattle.md5_digest.specs.Held.{Held}

pub held_none : (buf : List ℕ) → Held 0 [] initial buf
held_none buf = record { count = refl; words = refl; rest = refl }

-- the same, in another way to say the count or the message
pub held_as : (n n' : ℕ) (m m' : List ℕ) (q : State) (buf : List ℕ) → n ≡ n' → m ≡ m' → Held n m q buf → Held n' m' q buf
held_as n n' m m' q buf e g h = rw (e, g) at h

module _ (n : ℕ) (m : List ℕ) (q : State) (buf : List ℕ) (held : Held n m q buf) where
  -- the words do not see a piece after
  same_words : (s : List ℕ) → q ≡ after initial (n / 64) (m ++ s)
  same_words s = held.words ∙ sym (after-append initial (n / 64) m s (omega (arith, held.count)))

  -- what follows the whole blocks
  tail : (s : List ℕ) → drop (64 * (n / 64)) (m ++ s) ≡ take (n % 64) buf ++ s
  tail s = drop-append-le (64 * (n / 64)) m s (omega (arith, held.count)) ∙ ap (λ (l : List ℕ). l ++ s) (sym held.rest)

  longer : (s : List ℕ) → n + length s ≡ length (m ++ s)
  longer s = rw length-append (omega (arith, held.count))

  -- the words after k blocks more
  pub more_words : (k : ℕ) (s : List ℕ) → after initial (n / 64 + k) (m ++ s) ≡ after q k (take (n % 64) buf ++ s)
  more_words k s = after-add initial (n / 64) k (m ++ s) ∙ rw (← (same_words s), tail s)

  -- a piece that fills no block
  pub held_short : (s b : List ℕ) → b ≡ write buf (n % 64) s → length s < 64 - n % 64 → length buf ≡ 64 → Held (n + length s) (m ++ s) q b
  held_short s b e h long =
      let k : (n + length s) / 64 ≡ n / 64 = omega arith in
      let f : (n + length s) % 64 ≡ n % 64 + length s = omega arith in
      record {
        count = longer s;
        words = rw k (same_words s);
        rest = rw (k, f, e, tail s) (take-write buf (n % 64) s (omega arith));
      }

  -- a piece that ends the block
  pub held_full : (s b : List ℕ) (r : State) → b ≡ write buf (n % 64) s → length s ≡ 64 - n % 64 → length buf ≡ 64
      → r ≡ after q (length b / 64) b → Held (n + length s) (m ++ s) r b
  held_full s b r e h long g =
      let k : (n + length s) / 64 ≡ n / 64 + 1 = omega arith in
      let z : (n + length s) % 64 ≡ 0 = omega arith in
      let lb : length b ≡ 64 = rw e (length-write buf (n % 64) s ∙ long) in
      let one : length b / 64 ≡ 1 = omega arith in
      let full : n % 64 + length s ≡ 64 = omega arith in
      let whole : take (n % 64) buf ++ s ≡ b = sym (take-write buf (n % 64) s (omega arith)) ∙ rw (full, ← e) (take_all 64 b (omega arith)) in
      record {
        count = longer s;
        words = g ∙ rw (one, k) (sym (more_words 1 s ∙ ap (after q 1) whole));
        rest = rw (z, k) (sym (drop_of_length-le (m ++ s) {i = 64 * (n / 64 + 1)} (omega (arith, longer s))));
      }

  -- a piece where no block is begun
  pub held_aligned : (s b : List ℕ) (r : State) (e : ℕ) → n % 64 ≡ 0 → r ≡ after q (length s / 64) s → e ≡ length s / 64 * 64
      → b ≡ write buf 0 (take (length s - e) (drop e s)) → length buf ≡ 64 → Held (n + length s) (m ++ s) r b
  held_aligned s b r e z g i w long =
      let k : (n + length s) / 64 ≡ n / 64 + length s / 64 = omega arith in
      let f : (n + length s) % 64 ≡ length s % 64 = omega arith in
      let at : 64 * (n / 64 + length s / 64) ≡ length m + e = omega (arith, held.count) in
      let ld : length (drop e s) ≡ length s % 64 = rw length-drop (omega arith) in
      let all : take (length s - e) (drop e s) ≡ drop e s = take_all (length s - e) (drop e s) (omega arith) in
      let kept : take (0 + length (drop e s)) (write buf 0 (drop e s)) ≡ drop e s = take-write buf 0 (drop e s) (omega arith) in
      record {
        count = longer s;
        words = g ∙ rw k (sym (rw z at (more_words (length s / 64) s)));
        rest = rw (k, f, at, w, all, drop-append-add m s e, ← ld) (rw zero-add at kept);
      }

-- a piece where no block is begun, of which a call says what it holds
pub held_here : (n : ℕ) (m s buf b : List ℕ) (q r : State) → ((i : ℕ) (l : List ℕ) → i % 64 ≡ 0 → Held i l q buf → Held (i + length s) (l ++ s) r b)
    → n % 64 ≡ 0 → Held n m q buf → Held (n + length s) (m ++ s) r b
held_here n m s buf b q r then z held = then n m z held

-- a piece in two: j bytes that end the block, and the rest, of which a call says what it holds
pub held_across : (n j : ℕ) (m s front rest buf b b' : List ℕ) (q r r' : State) → Held n m q buf → length buf ≡ 64 → j ≡ 64 - n % 64 → j ≤ length s
    → front ≡ take j s → rest ≡ drop j s → b ≡ write buf (n % 64) front → r ≡ after q (length b / 64) b
    → ((i : ℕ) (l : List ℕ) → i % 64 ≡ 0 → Held i l r b → Held (i + length rest) (l ++ rest) r' b') → Held (n + length s) (m ++ s) r' b'
held_across n j m s front rest buf b b' q r r' held long ej h ef er e g then =
    let lj : length front ≡ j = rw ef (length-take-le j s h) in
    let lr : length rest ≡ length s - j = rw (er, length-drop) in
    let full = held_full n m q buf held front b r e (lj ∙ ej) long g in
    let more = then (n + length front) (m ++ front) (omega arith) full in
    held_as _ _ _ _ r' b' (omega arith) (append_assoc m front rest ∙ rw (ef, er, take-append-drop)) more

-- one piece after none
pub held_whole : (s buf b d : List ℕ) (q₀ q : State) → q₀ ≡ initial → ((m : List ℕ) → Held 0 m q₀ buf → Held (0 + length s) (m ++ s) q b)
    → ((m : List ℕ) → Held (length s) m q b → d ≡ md5 m) → d ≡ md5 s
held_whole s buf b d q₀ q e f g = g s (held_as (0 + length s) (length s) s s q b (zero-add (length s)) refl (f [] (rw e (held_none buf))))
