-- Alterations of a slot: a field written in the table is that field written in its slot, and the slot's length stays.
-- Assumes nothing.
use Rattle.std.specs.Prelude.{Option, None, Some}
use Rattle.octet_runs.specs.declared.span.Span.{Span}
use mathlib.Core.Path.{◌≡◌, refl, ap, ◌∙◌}
use mathlib.Core.List.{List}
use Prim.Native.Nat.{ℕ, ◌+◌, ◌*◌, ◌≤◌}
use native.Mathlib.Omega.{arith}
use lib.ListN.{length}
use Rattle.octet_numbers.specs.Numbers.{be_bytes}
use Rattle.octet_numbers.specs.Runs.{part, write}
use Rattle.octet_numbers.proofs.Numbers.{length-be_bytes}
use Rattle.octet_numbers.proofs.Write.{length-write}
use Rattle.table_slots.specs.Slot.{slot}
use Rattle.table_slots.proofs.Overwrite.{write_in}
use Rattle.table_slots.proofs.Places.{slot_same, length-slot}
use Rattle.table_records.specs.Record.{text_field}
use Rattle.table_records.proofs.Fields.{length-text_field}
use Rattle.table_change.specs.declared.Alteration.{Alteration}
use Rattle.table_change.specs.Change.{set_number, set_text, altered}

pub length-set_number : (x : Option ℕ) (i : ℕ) (s : List ℕ) → length (set_number x i s) ≡ length s
unfolding set_number
length-set_number None i s = refl
length-set_number (Some v) i s = length-write s i (be_bytes 4 v)

pub length-set_text : (area : List ℕ) (x : Option Span) (i : ℕ) (s : List ℕ) → length (set_text area x i s) ≡ length s
unfolding set_text
length-set_text area None i s = refl
length-set_text area (Some r) i s = length-write s i (text_field 32 (part r.at r.size area))

-- the fields, written one after the other
module _ (area : List ℕ) (a : Alteration) (s : List ℕ) where
  abbrev pub timed : List ℕ
  timed = set_number a.timeout 10 s

  abbrev pub idled : List ℕ
  idled = set_number a.idle 14 timed

  abbrev pub filtered : List ℕ
  filtered = set_text area a.filter 148 idled

  abbrev pub slowed : List ℕ
  slowed = set_number a.down 181 filtered

  pub length_idled : length idled ≡ length s
  length_idled = length-set_number a.idle 14 timed ∙ length-set_number a.timeout 10 s

  pub length_filtered : length filtered ≡ length s
  length_filtered = length-set_text area a.filter 148 idled ∙ length_idled

  pub length_slowed : length slowed ≡ length s
  length_slowed = length-set_number a.down 181 filtered ∙ length_filtered

  pub length-altered : length (altered area a s) ≡ length s
  unfolding altered
  length-altered = length-set_number a.up 185 slowed ∙ length_slowed

-- ---- s lies at place m of t
module _ (t s : List ℕ) (m i : ℕ) where
  number_in : (x : Option ℕ) → i + 4 ≤ length s → set_number x (m + i) (write t m s) ≡ write t m (set_number x i s)
  unfolding set_number
  number_in None h = refl
  number_in (Some v) h = write_in t s m i (be_bytes 4 v) (rw length-be_bytes h)

  text_in : (area : List ℕ) (x : Option Span) → i + 33 ≤ length s → set_text area x (m + i) (write t m s) ≡ write t m (set_text area x i s)
  unfolding set_text
  text_in area None h = refl
  text_in area (Some r) h = write_in t s m i (text_field 32 (part r.at r.size area)) (rw length-text_field h)

-- the five fields written in the table, one after the other
pub altered_in : (area t t₁ t₂ t₃ t₄ t₅ : List ℕ) (a : Alteration) (k : ℕ) → (k + 1) * 192 ≤ length t
    → t₁ ≡ set_number a.timeout (k * 192 + 10) t
    → t₂ ≡ set_number a.idle (k * 192 + 14) t₁
    → t₃ ≡ set_text area a.filter (k * 192 + 148) t₂
    → t₄ ≡ set_number a.down (k * 192 + 181) t₃
    → t₅ ≡ set_number a.up (k * 192 + 185) t₄
    → t₅ ≡ write t (k * 192) (altered area a (slot k t))
unfolding altered
altered_in area t t₁ t₂ t₃ t₄ t₅ a k h e₁ e₂ e₃ e₄ e₅ =
    let s : List ℕ = slot k t in
    let at : ℕ = k * 192 in
    let s₁ : List ℕ = timed area a s in
    let s₂ : List ℕ = idled area a s in
    let s₃ : List ℕ = filtered area a s in
    let s₄ : List ℕ = slowed area a s in
    let l : length s ≡ 192 = length-slot t k h in
    let l₁ : length s₁ ≡ 192 = length-set_number a.timeout 10 s ∙ l in
    let l₂ : length s₂ ≡ 192 = length_idled area a s ∙ l in
    let l₃ : length s₃ ≡ 192 = length_filtered area a s ∙ l in
    let l₄ : length s₄ ≡ 192 = length_slowed area a s ∙ l in
    let w₁ : t₁ ≡ write t at s₁ = e₁ ∙ ap (set_number a.timeout (at + 10)) (slot_same t k h) ∙ number_in t s at 10 a.timeout (omega arith) in
    let w₂ : t₂ ≡ write t at s₂ = e₂ ∙ ap (set_number a.idle (at + 14)) w₁ ∙ number_in t s₁ at 14 a.idle (omega arith) in
    let w₃ : t₃ ≡ write t at s₃ = e₃ ∙ ap (set_text area a.filter (at + 148)) w₂ ∙ text_in t s₂ at 148 area a.filter (omega arith) in
    let w₄ : t₄ ≡ write t at s₄ = e₄ ∙ ap (set_number a.down (at + 181)) w₃ ∙ number_in t s₃ at 181 a.down (omega arith) in
    e₅ ∙ ap (set_number a.up (at + 185)) w₄ ∙ number_in t s₄ at 185 a.up (omega arith)
