-- What an alteration writes is read back, all 32 bits of a number; a field that is not named is as it was; an ended slot is free.
-- Assumes nothing.
use Rattle.std.specs.Prelude.{Option, None, Some}
use Rattle.octet_runs.specs.declared.span.Span.{Span}
use mathlib.Core.Path.{◌≡◌, refl, ap, ◌∙◌}
use mathlib.Core.Bool.{true, false}
use mathlib.Core.List.{List}
use mathlib.Core.Logic.{⊎_elim, ◌⊎◌, inl, inr}
use Prim.Native.Nat.{ℕ, ◌+◌, ◌^◌, ◌≤◌, ◌<◌}
use native.Mathlib.Omega.{arith}
use lib.ListN.{length, get_or, take}
use Rattle.octet_numbers.specs.Numbers.{be, be_bytes}
use Rattle.octet_numbers.specs.Runs.{part}
use Rattle.octet_numbers.proofs.Numbers.{length-be_bytes, be_before, be-after, be-written}
use Rattle.table_slots.specs.Slot.{live, text, session_timeout, idle_timeout, filter_id, down_rate, up_rate}
use Rattle.table_slots.proofs.Apart.{text-after}
use Rattle.table_slots.proofs.Live.{within_high}
use Rattle.table_records.specs.Record.{text_field}
use Rattle.table_records.proofs.Fields.{length-text_field}
use Rattle.table_records.proofs.Texts.{field_written, text_there}
use Rattle.table_change.specs.declared.Alteration.{Alteration}
use Rattle.table_change.specs.declared.Change.TheVariants.{End}
use Rattle.table_change.specs.Change.{set_number, set_text, altered, changed}
use Rattle.table_change.proofs.Alter.{length-set_number, timed, idled, filtered, slowed, length_idled, length_filtered, length_slowed}
use Rattle.table_change.proofs.Untouched.{same_byte, beside_rates, filter_fits}

pub ended_free : (area s : List ℕ) → live (changed area End s) ≡ false
unfolding changed live
ended_free area s = refl

-- ---- a number beside one field

module _ (s : List ℕ) (i at : ℕ) where
  be_number : (x : Option ℕ) → ((at + 4 ≤ i) ⊎ (i + 4 ≤ at)) → be at 4 (set_number x i s) ≡ be at 4 s
  unfolding set_number
  be_number None o = refl
  be_number (Some v) o =
      ⊎_elim (λ h. be_before 4 s i (be_bytes 4 v) at h) (λ h. be-after 4 s i (be_bytes 4 v) at (rw length-be_bytes h)) o

  be-text : (area : List ℕ) (x : Option Span) → ((at + 4 ≤ i) ⊎ (i + 33 ≤ at)) → be at 4 (set_text area x i s) ≡ be at 4 s
  unfolding set_text
  be-text area None o = refl
  be-text area (Some r) o =
      let v : List ℕ = text_field 32 (part r.at r.size area) in
      ⊎_elim (λ h. be_before 4 s i v at h) (λ h. be-after 4 s i v at (rw length-text_field h)) o

-- the field itself
number_there : (x : Option ℕ) (v i : ℕ) (s : List ℕ) → x ≡ Some v → v < 2 ^ 32 → i + 4 ≤ length s → be i 4 (set_number x i s) ≡ v
unfolding set_number
number_there x v i s e h g = rw e (be-written 4 s i v h g)

unnamed : (x : Option ℕ) (i : ℕ) (s : List ℕ) → x ≡ None → set_number x i s ≡ s
unfolding set_number
unnamed x i s e = rw e

text_number : (x : Option ℕ) (i a : ℕ) (s : List ℕ) → i + 4 ≤ a → text a (set_number x i s) ≡ text a s
unfolding set_number
text_number None i a s h = refl
text_number (Some v) i a s h = text-after s i (be_bytes 4 v) a (rw length-be_bytes h)

-- a text of at most 32 bytes in the Filter-Id's place lies below the rates
text_beside : (area : List ℕ) (a : Alteration) (s : List ℕ) → get_or (filtered area a s) 148 0 ≤ 32
    → filter_id (altered area a s) ≡ filter_id (filtered area a s)
unfolding text
text_beside area a s h =
    let b : get_or (altered area a s) 148 0 ≡ get_or (filtered area a s) 148 0 = same_byte _ _ 148 (beside_rates area a s 148 1 (inl (omega arith))) in
    rw b (beside_rates area a s 149 (get_or (filtered area a s) 148 0) (inl (omega arith)))

module _ (area : List ℕ) (a : Alteration) (s : List ℕ) where
  -- a number below the rates, and one above the Filter-Id
  below : (at : ℕ) → at + 4 ≤ 148 → be at 4 (altered area a s) ≡ be at 4 (idled area a s)
  unfolding altered
  below at h =
      be_number (slowed area a s) 185 at a.up (inl (omega arith))
      ∙ be_number (filtered area a s) 181 at a.down (inl (omega arith))
      ∙ be-text (idled area a s) 148 at area a.filter (inl h)

  above : (at : ℕ) → 181 ≤ at → be at 4 (filtered area a s) ≡ be at 4 s
  above at h =
      be-text (idled area a s) 148 at area a.filter (inr h)
      ∙ be_number (timed area a s) 14 at a.idle (inr (omega arith))
      ∙ be_number s 10 at a.timeout (inr (omega arith))

  timeout_is : session_timeout (altered area a s) ≡ session_timeout (timed area a s)
  timeout_is = below 10 (omega arith) ∙ be_number (timed area a s) 14 10 a.idle (inl (omega arith))

  idle_is : idle_timeout (altered area a s) ≡ idle_timeout (idled area a s)
  idle_is = below 14 (omega arith)

  down_is : down_rate (altered area a s) ≡ down_rate (slowed area a s)
  unfolding altered
  down_is = be_number (slowed area a s) 185 181 a.up (inl (omega arith))

  -- a number that is named
  pub timeout_set : (v : ℕ) → a.timeout ≡ Some v → v < 2 ^ 32 → 14 ≤ length s → session_timeout (altered area a s) ≡ v
  timeout_set v e h g = timeout_is ∙ number_there a.timeout v 10 s e h g

  pub idle_set : (v : ℕ) → a.idle ≡ Some v → v < 2 ^ 32 → 18 ≤ length s → idle_timeout (altered area a s) ≡ v
  idle_set v e h g = idle_is ∙ number_there a.idle v 14 (timed area a s) e h (rw length-set_number g)

  pub down_set : (v : ℕ) → a.down ≡ Some v → v < 2 ^ 32 → 185 ≤ length s → down_rate (altered area a s) ≡ v
  down_set v e h g = down_is ∙ number_there a.down v 181 (filtered area a s) e h (rw length_filtered g)

  pub up_set : (v : ℕ) → a.up ≡ Some v → v < 2 ^ 32 → 189 ≤ length s → up_rate (altered area a s) ≡ v
  unfolding altered
  up_set v e h g = number_there a.up v 185 (slowed area a s) e h (rw length_slowed g)

  -- and one that is not
  pub timeout_kept : a.timeout ≡ None → session_timeout (altered area a s) ≡ session_timeout s
  timeout_kept e = timeout_is ∙ ap session_timeout (unnamed a.timeout 10 s e)

  pub idle_kept : a.idle ≡ None → idle_timeout (altered area a s) ≡ idle_timeout s
  idle_kept e = idle_is ∙ ap idle_timeout (unnamed a.idle 14 (timed area a s) e) ∙ be_number s 10 14 a.timeout (inr (omega arith))

  pub down_kept : a.down ≡ None → down_rate (altered area a s) ≡ down_rate s
  down_kept e = down_is ∙ ap down_rate (unnamed a.down 181 (filtered area a s) e) ∙ above 181 (omega arith)

  pub up_kept : a.up ≡ None → up_rate (altered area a s) ≡ up_rate s
  unfolding altered
  up_kept e =
      ap up_rate (unnamed a.up 185 (slowed area a s) e)
      ∙ be_number (filtered area a s) 181 185 a.down (inr (omega arith))
      ∙ above 185 (omega arith)

  -- 65,748 is 1 * 65,536 + 212: more than 16 bits
  pub timeout_65748 : a.timeout ≡ Some 65748 → 14 ≤ length s → session_timeout (altered area a s) ≡ 65748
  timeout_65748 e g = timeout_set 65748 e (omega arith) g

  -- the Filter-Id
  pub filter_set : (r : Span) → a.filter ≡ Some r → 181 ≤ length s → filter_id (altered area a s) ≡ take 32 (part r.at r.size area)
  unfolding set_text
  filter_set r e g =
      let v : List ℕ = part r.at r.size area in
      let u : List ℕ = idled area a s in
      let long : length u ≡ length s = length_idled area a s in
      let there : part 148 33 (filtered area a s) ≡ text_field 32 v = rw e (field_written u 148 32 v (omega arith)) in
      text_there (altered area a s) 148 32 v (beside_rates area a s 148 33 (inl (omega arith)) ∙ there)

  pub filter_kept : a.filter ≡ None → live s ≡ true → 181 ≤ length s → filter_id (altered area a s) ≡ filter_id s
  unfolding set_text
  filter_kept e l g =
      let same : filtered area a s ≡ idled area a s = rw e in
      text_beside area a s (within_high 0 32 _ (filter_fits area a s l g))
      ∙ ap filter_id same
      ∙ text_number a.idle 14 148 (timed area a s) (omega arith)
      ∙ text_number a.timeout 10 148 s (omega arith)
