-- The record of a session, written in pieces one after the other.
-- Assumes nothing.
use mathlib.Core.Path.{◌≡◌, sym, ap, ◌∙◌}
use mathlib.Core.List.{List, [], ◌∷◌, ◌++◌, append_assoc}
use Prim.Native.Nat.{ℕ, ◌+◌}
use lib.ListN.{length, set, replicate, length-append, length-replicate}
use Rattle.octet_numbers.specs.Numbers.{be_bytes}
use Rattle.octet_numbers.specs.Runs.{write}
use Rattle.octet_numbers.proofs.Numbers.{length-be_bytes}
use Rattle.octet_numbers.proofs.Write.{write_then, write_cons, write_one}
use Rattle.table_records.specs.Record.{text_field}
use Rattle.table_records.specs.Record.{Session, record_of}
use Rattle.table_records.proofs.Fields.{length-text_field}

pub mark_written : (t : List ℕ) (at a b : ℕ) → set (set t at a) (at + 1) b ≡ write t at (a ∷ b ∷ [])
mark_written t at a b = sym (write_cons t at a (b ∷ []) ∙ sym (write_one (set t at a) (at + 1) b))

-- ---- t with the bytes vs, n of them, written from place at on
record Wrote (t : List ℕ) (at n : ℕ) (vs u : List ℕ) : Type 0 where
  is : u ≡ write t at vs
  size : length vs ≡ n

then : (t u u' : List ℕ) (at n m : ℕ) (vs ws : List ℕ) → Wrote t at n vs u → u' ≡ write u (at + n) ws → length ws ≡ m → Wrote t at (n + m) (vs ++ ws) u'
then t u u' at n m vs ws w e h = record {
  is = write_then u u' t at (at + n) vs ws w.is e (ap (λ (i : ℕ). at + i) (sym w.size));
  size = length-append vs ws ∙ rw (w.size, h);
}

module _ (t t₁ t₂ t₃ t₄ t₅ : List ℕ) (at : ℕ) where
  pub numbers_written : (mark : List ℕ) (a b c d : ℕ) → length mark ≡ 2
      → t₁ ≡ write t at mark
      → t₂ ≡ write t₁ (at + 2) (be_bytes 4 a)
      → t₃ ≡ write t₂ (at + 6) (be_bytes 4 b)
      → t₄ ≡ write t₃ (at + 10) (be_bytes 4 c)
      → t₅ ≡ write t₄ (at + 14) (be_bytes 4 d)
      → t₅ ≡ write t at (mark ++ be_bytes 4 a ++ be_bytes 4 b ++ be_bytes 4 c ++ be_bytes 4 d)
  numbers_written mark a b c d l e₁ e₂ e₃ e₄ e₅ =
      let w₁ : Wrote t at 2 mark t₁ = record { is = e₁; size = l } in
      let w₂ = then t t₁ t₂ at 2 4 _ _ w₁ e₂ (length-be_bytes 4 a) in
      let w₃ = then t t₂ t₃ at 6 4 _ _ w₂ e₃ (length-be_bytes 4 b) in
      let w₄ = then t t₃ t₄ at 10 4 _ _ w₃ e₄ (length-be_bytes 4 c) in
      (then t t₄ t₅ at 14 4 _ _ w₄ e₅ (length-be_bytes 4 d)).is

  pub texts_written : (user id station filter : List ℕ)
      → t₁ ≡ write t at (text_field 63 user)
      → t₂ ≡ write t₁ (at + 64) (text_field 32 id)
      → t₃ ≡ write t₂ (at + 97) (text_field 32 station)
      → t₄ ≡ write t₃ (at + 130) (text_field 32 filter)
      → t₅ ≡ write t₄ (at + 163) (replicate 11 0)
      → t₅ ≡ write t at (text_field 63 user ++ text_field 32 id ++ text_field 32 station ++ text_field 32 filter ++ replicate 11 0)
  texts_written user id station filter e₁ e₂ e₃ e₄ e₅ =
      let w₁ : Wrote t at 64 (text_field 63 user) t₁ = record { is = e₁; size = length-text_field 63 user } in
      let w₂ = then t t₁ t₂ at 64 33 _ _ w₁ e₂ (length-text_field 32 id) in
      let w₃ = then t t₂ t₃ at 97 33 _ _ w₂ e₃ (length-text_field 32 station) in
      let w₄ = then t t₃ t₄ at 130 33 _ _ w₃ e₄ (length-text_field 32 filter) in
      (then t t₄ t₅ at 163 11 _ _ w₄ e₅ (length-replicate {A = ℕ} 11 0)).is

-- the last piece is written in one: both rates and the three bytes after them are zero
regroup : (m a b c d u i s f v w z : List ℕ)
    → (m ++ a ++ b ++ c ++ d) ++ (u ++ i ++ s ++ f ++ (v ++ w ++ z)) ≡ m ++ a ++ b ++ c ++ d ++ u ++ i ++ s ++ f ++ v ++ w ++ z
regroup m a b c d u i s f v w z = simp append_assoc

-- numbers and texts together
pub record_written : (t t₁ t₂ : List ℕ) (at : ℕ) (x : Session)
    → t₁ ≡ write t at ((0x5A ∷ 0x4C ∷ []) ++ be_bytes 4 x.port ++ be_bytes 4 x.address ++ be_bytes 4 x.timeout ++ be_bytes 4 x.idle)
    → t₂ ≡ write t₁ (at + 18) (text_field 63 x.user ++ text_field 32 x.id ++ text_field 32 x.station ++ text_field 32 x.filter ++ replicate 11 0)
    → t₂ ≡ write t at (record_of x)
unfolding record_of be_bytes
record_written t t₁ t₂ at x e₁ e₂ =
    let mark : List ℕ = 0x5A ∷ 0x4C ∷ [] in
    let numbers : List ℕ = mark ++ be_bytes 4 x.port ++ be_bytes 4 x.address ++ be_bytes 4 x.timeout ++ be_bytes 4 x.idle in
    let l : length numbers ≡ 18 = simp length-append in
    write_then t₁ t₂ t at (at + 18) numbers _ e₁ e₂ (rw l)
    ∙ ap (write t at)
    (regroup mark (be_bytes 4 x.port) (be_bytes 4 x.address) (be_bytes 4 x.timeout) (be_bytes 4 x.idle)
    (text_field 63 x.user) (text_field 32 x.id) (text_field 32 x.station) (text_field 32 x.filter) (be_bytes 4 0) (be_bytes 4 0) (replicate 3 0))
