-- The two hashes of HMAC as runs of calls: each call says what it holds or gives of every message, and the messages are the pads with what follows.
-- Assumes nothing.
use mathlib.Core.Path.{◌≡◌, refl, sym, ap, ◌∙◌}
use mathlib.Core.List.{List, ◌++◌}
use Prim.Native.Nat.{ℕ, ◌+◌, ◌/◌, ◌<◌, ◌≤◌}
use native.Mathlib.Omega.{arith}
use lib.ListN.{length, drop_of_length-le}
use Rattle.md5_ops.specs.declared.State.{State}
use Rattle.md5_ops.specs.Md5.{after, initial, md5}
use Rattle.md5_ops.proofs.After.{length-md5}
use Rattle.md5_digest.specs.Held.{Held}
use Rattle.md5_digest.proofs.Pieces.{held_as}
use Rattle.md5_hmac.specs.Hmac.{short_key, key_pad, inner_pad, outer_pad, hmac}
use Rattle.md5_hmac.proofs.Keys.{length-key_pad, short_long, short_same, length-short_key}

module _ (c : ℕ) (k : List ℕ) where
  pub keyed_block : (b : List ℕ) (r : State) → b ≡ key_pad c k → r ≡ after initial (length b / 64) b → length k ≤ 64 → r ≡ after initial 1 (key_pad c k)
  keyed_block b r e g h =
      let one : length b / 64 ≡ 1 = rw (e, length-key_pad c k h) in
      g ∙ rw (one, e)

  pub keyed_long : (h : List ℕ) (r : State) → h ≡ md5 k → r ≡ after initial 1 (key_pad c h) → 64 < length k → r ≡ after initial 1 (key_pad c (short_key k))
  keyed_long h r e g l = g ∙ rw (e, ← (short_long k l))

  pub keyed_same : (r : State) → r ≡ after initial 1 (key_pad c k) → length k ≤ 64 → r ≡ after initial 1 (key_pad c (short_key k))
  keyed_same r g l = g ∙ rw (short_same k l)

  -- a whole block is held, whatever the buffer
  pub held_key : (r : State) (buf : List ℕ) → r ≡ after initial 1 (key_pad c (short_key k)) → Held 64 (key_pad c (short_key k)) r buf
  held_key r buf e =
      let l : length (key_pad c (short_key k)) ≡ 64 = length-key_pad c (short_key k) (length-short_key k) in
      record { count = sym l; words = e; rest = sym (drop_of_length-le (key_pad c (short_key k)) {i = 64} (omega arith)) }

-- the inner digest after the outer pad
pub outer_run : (k m buf b b' h d : List ℕ) (n : ℕ) (q p r : State) → ((l : List ℕ) → Held n l q buf → h ≡ md5 l) → p ≡ after initial 1 (outer_pad k)
    → ((l : List ℕ) → Held 64 l p b → Held (64 + length h) (l ++ h) r b') → ((l : List ℕ) → Held 80 l r b' → d ≡ md5 l)
    → Held n (inner_pad k ++ m) q buf → d ≡ hmac k m
unfolding hmac
outer_run k m buf b b' h d n q p r inner e more last held =
    let is : h ≡ md5 (inner_pad k ++ m) = inner (inner_pad k ++ m) held in
    let long : 64 + length h ≡ 80 = rw (is, length-md5) in
    last (outer_pad k ++ h) (held_as (64 + length h) 80 (outer_pad k ++ h) (outer_pad k ++ h) r b' long refl (more (outer_pad k) (held_key 0x5c k p b e)))
    ∙ ap (λ (l : List ℕ). md5 (outer_pad k ++ l)) is

-- one piece after the inner pad
pub whole_run : (k s buf b d : List ℕ) (p q : State) → ((l : List ℕ) → Held 64 (inner_pad k) p l) → ((l : List ℕ) → Held 64 l p buf → Held (64 + length s) (l ++ s) q b)
    → ((l : List ℕ) → Held (64 + length s) (inner_pad k ++ l) q b → d ≡ hmac k l) → d ≡ hmac k s
whole_run k s buf b d p q first more last = last s (more (inner_pad k) (first buf))

pub length-hmac : (k m : List ℕ) → length (hmac k m) ≡ 16
unfolding hmac
length-hmac k m = length-md5 (outer_pad k ++ md5 (inner_pad k ++ m))
