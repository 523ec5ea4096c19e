-- A text field, written: length, value and zeros, one after the other.
-- Assumes nothing.
use mathlib.Core.Path.{◌≡◌, ap, ◌∙◌}
use mathlib.Core.List.{List}
use Prim.Native.Nat.{ℕ, ◌+◌, ◌-◌, ◌≤◌, ◌<◌}
use native.Mathlib.Omega.{arith}
use lib.ListN.{length, set, take, replicate, length-set, length-take, length-append, length-replicate}
use Rattle.octet_numbers.specs.Runs.{part, write}
use Rattle.octet_numbers.proofs.Write.{write_cons, write-append, length-write}
use Rattle.table_records.specs.Record.{text_field}

pub length-text_field : (cap : ℕ) (v : List ℕ) → length (text_field cap v) ≡ cap + 1
unfolding text_field
length-text_field cap v =
    let l : length (take cap v) ≤ cap = rw length-take (omega arith) in
    simp (length-append, length-replicate) (omega arith)

-- ---- a text: kept is as much of v as the field takes

module _ (kept v : List ℕ) (cap : ℕ) (e : kept ≡ part 0 cap v) where
  pub kept_short : length kept ≤ cap
  unfolding part
  kept_short = rw (e, length-take) (omega arith)

  pub kept_low : cap < 256 → length kept < 256
  kept_low h = omega (arith, kept_short)

  pub kept_fits : (t : List ℕ) (at x : ℕ) → at + 1 + cap ≤ length t → at + 1 + length kept ≤ length (set t at x)
  kept_fits t at x h = rw length-set (omega (arith, kept_short))

  -- t₁ is the table with length and value, t₂ with the zeros too
  module _ (t t₁ : List ℕ) (at x : ℕ) (e₁ : t₁ ≡ write (set t at x) (at + 1) kept) where
    pub value_long : length t₁ ≡ length t
    value_long = ap length e₁ ∙ length-write (set t at x) (at + 1) kept ∙ length-set t at x

    pub zeros_fit : at + 1 + cap ≤ length t → at + 1 + length kept + (cap - length kept) ≤ length t₁
    zeros_fit h = rw value_long (omega (arith, kept_short))

    pub text_long : (t₂ ws : List ℕ) (j : ℕ) → t₂ ≡ write t₁ j ws → length t₂ ≡ length t
    text_long t₂ ws j e₂ = ap length e₂ ∙ length-write t₁ j ws ∙ value_long

    pub text-written : (t₂ : List ℕ) → x ≡ length kept → t₂ ≡ write t₁ (at + 1 + length kept) (replicate (cap - length kept) 0) → t₂ ≡ write t at (text_field cap v)
    unfolding text_field part
    text-written t₂ d e₂ =
        rw (← e, write_cons t at, write-append (set t at (length kept)) (at + 1) kept) (e₂ ∙ rw (e₁, d))
