-- The message under the Message-Authenticator in pieces: the front, the attributes up to the value, zeros, the attributes after it. So the
-- value itself is not looked at, and it may be written where it belongs after it was worked out. Assumes nothing.
use mathlib.Core.Path.{◌≡◌, ap, ◌∙◌}
use mathlib.Core.List.{List, ◌++◌}
use Prim.Native.Nat.{ℕ, ◌+◌, ◌-◌, ◌≤◌}
use native.Mathlib.Omega.{arith}
use lib.ListN.{length, take, drop, replicate, length-append, length-take, length-drop}
use lib.Seq.{take-append-add, drop-append-add, take-take, drop-drop}
use Rattle.octet_numbers.specs.Runs.{part, write}
use Rattle.octet_numbers.proofs.Part.{drop-take, part_before, part-after}
use Rattle.octet_numbers.proofs.Write.{length-write}
use Rattle.packet_auth.specs.Signing.{zeros, with_auth, blanked, message_authenticator}
use Rattle.packet_auth.proofs.Messages.{between}

-- what comes before the attributes
abbrev pub front : List ℕ → List ℕ → List ℕ
front p auth = take 4 p ++ auth

pub length_front : (auth p : List ℕ) → 20 ≤ length p → length auth ≡ 16 → length (front p auth) ≡ 20
length_front auth p h l = simp (length-append, length-take) (omega arith)

pub length-between : (i e : ℕ) (p : List ℕ) → i ≤ e → e ≤ length p → length (between i e p) ≡ e - i
length-between i e p h g = simp (length-take, length-drop) (omega arith)

pub blanked_pieces : (auth p : List ℕ) (n at : ℕ) → n ≤ length p → length auth ≡ 16 → 20 ≤ at → at + 16 ≤ n
    → blanked at (with_auth auth p n) ≡ front p auth ++ between 20 at p ++ replicate 16 0 ++ between (at + 16) n p
unfolding blanked with_auth zeros
blanked_pieces auth p n at fits long from to =
    let f = front p auth in
    let a = drop 20 (take n p) in
    let l : length f ≡ 20 = length_front auth p (omega arith) long in
    let i : at ≡ length f + (at - 20) = omega arith in
    let j : at + 16 ≡ length f + (at - 4) = omega arith in
    let d : 20 + (at - 4) ≡ at + 16 = omega arith in
    let x : take at (f ++ a) ≡ f ++ between 20 at p =
    ap (λ (k : ℕ). take k (f ++ a)) i
    ∙ take-append-add f a (at - 20)
    ∙ rw (drop-take 20 n p, take-take (at - 20) (n - 20) (drop 20 p) (omega arith)) in
    let y : drop (at + 16) (f ++ a) ≡ between (at + 16) n p =
    ap (λ (k : ℕ). drop k (f ++ a)) j
    ∙ drop-append-add f a (at - 4)
    ∙ drop-drop (at - 4) 20 (take n p)
    ∙ ap (λ (k : ℕ). drop k (take n p)) d
    ∙ drop-take (at + 16) n p in
    rw (x, y)

-- the value in its place is not looked at
pub value_ignored : (auth p : List ℕ) (n at : ℕ) (v secret : List ℕ) → n ≤ length p → length auth ≡ 16 → 20 ≤ at → at + 16 ≤ n → length v ≡ 16
    → message_authenticator auth (write p at v) n at secret ≡ message_authenticator auth p n at secret
unfolding message_authenticator part
value_ignored auth p n at v secret fits long from to lv =
    let lw : length (write p at v) ≡ length p = length-write p at v in
    rw (
      blanked_pieces auth (write p at v) n at (omega arith) long from to,
      blanked_pieces auth p n at fits long from to,
      part_before p at v 0 4 (omega arith),
      part_before p at v 20 (at - 20) (omega arith),
      part-after p at v (at + 16) (n - (at + 16)) (omega arith),
    )
