-- What an alteration keeps: bytes 0 to 9, 18 to 147 and 189 to 191 are beside all that it writes.
-- So a live slot stays live, with every field that a criterion can name.
-- Assumes nothing.
use Rattle.std.specs.Prelude.{Option, None, Some}
use Rattle.octet_runs.specs.declared.span.Span.{Span}
use mathlib.Core.Path.{◌≡◌, refl, sym, ap, ◌∙◌}
use mathlib.Core.Bool.{Bool, true}
use mathlib.Core.List.{List, [], ◌∷◌}
use mathlib.Core.Logic.{⊎_elim, ◌⊎◌, inl, inr}
use Prim.Native.Nat.{ℕ, ◌+◌, ◌≤◌, ◌<◌}
use native.Mathlib.Nat.{add-zero}
use native.Mathlib.Omega.{arith}
use lib.ListN.{length, get_or, take, length-take}
use Rattle.octet_numbers.specs.Numbers.{be_bytes}
use Rattle.octet_numbers.specs.Runs.{part, write}
use Rattle.octet_numbers.proofs.Numbers.{length-be_bytes}
use Rattle.octet_numbers.proofs.Part.{byte_part, part_before, part-after}
use Rattle.table_slots.specs.Slot.{live, within, text}
use Rattle.table_slots.proofs.Live.{within_is}
use Rattle.table_slots.proofs.Apart.{live_by, live_user, live_id, live_station, live_filter}
use Rattle.table_criteria.specs.declared.Criterion.{Criterion}
use Rattle.table_criteria.specs.declared.Field.{Field}
use Rattle.table_criteria.specs.declared.Field.TheVariants.{UserName, NasPort, FramedAddress, CallingStation, SessionId}
use Rattle.table_criteria.specs.Meets.{field_bytes, meets, all, matches}
use Rattle.table_records.specs.Record.{text_field}
use Rattle.table_records.proofs.Fields.{length-text_field}
use Rattle.table_records.proofs.Texts.{field_written, head_there}
use Rattle.table_change.specs.declared.Alteration.{Alteration}
use Rattle.table_change.specs.Change.{set_number, set_text, altered}
use Rattle.table_change.proofs.Alter.{timed, idled, filtered, slowed, length_idled}

-- a byte is a part of one
pub same_byte : (l m : List ℕ) (j : ℕ) → part j 1 l ≡ part j 1 m → get_or l j 0 ≡ get_or m j 0
same_byte l m j e = first l ∙ ap (λ (u : List ℕ). get_or u 0 0) e ∙ sym (first m)
  where
    first : (u : List ℕ) → get_or u j 0 ≡ get_or (part j 1 u) 0 0
    first u = ap (λ (k : ℕ). get_or u k 0) (sym (add-zero j)) ∙ sym (byte_part j 1 u 0 (omega arith))

-- ---- a part beside one field

module _ (m n i : ℕ) (s : List ℕ) where
  pub part_number : (x : Option ℕ) → ((m + n ≤ i) ⊎ (i + 4 ≤ m)) → part m n (set_number x i s) ≡ part m n s
  unfolding set_number
  part_number None o = refl
  part_number (Some v) o =
      ⊎_elim (λ h. part_before s i (be_bytes 4 v) m n h) (λ h. part-after s i (be_bytes 4 v) m n (rw length-be_bytes h)) o

  pub part-text : (area : List ℕ) (x : Option Span) → ((m + n ≤ i) ⊎ (i + 33 ≤ m)) → part m n (set_text area x i s) ≡ part m n s
  unfolding set_text
  part-text area None o = refl
  part-text area (Some r) o =
      let v : List ℕ = text_field 32 (part r.at r.size area) in
      ⊎_elim (λ h. part_before s i v m n h) (λ h. part-after s i v m n (rw length-text_field h)) o

-- ---- a part beside all five

module _ (area : List ℕ) (a : Alteration) (s : List ℕ) where
  pub beside_rates : (m n : ℕ) → ((m + n ≤ 181) ⊎ (189 ≤ m)) → part m n (altered area a s) ≡ part m n (filtered area a s)
  unfolding altered
  beside_rates m n o =
      part_number m n 185 (slowed area a s) a.up (⊎_elim (λ h. inl (omega arith)) (λ h. inr h) o)
      ∙ part_number m n 181 (filtered area a s) a.down (⊎_elim (λ h. inl h) (λ h. inr (omega arith)) o)

  beside_timeouts : (m n : ℕ) → ((m + n ≤ 10) ⊎ (18 ≤ m)) → part m n (idled area a s) ≡ part m n s
  beside_timeouts m n o =
      part_number m n 14 (timed area a s) a.idle (⊎_elim (λ h. inl (omega arith)) (λ h. inr h) o)
      ∙ part_number m n 10 s a.timeout (⊎_elim (λ h. inl h) (λ h. inr (omega arith)) o)

  beside : (m n : ℕ) → ((m + n ≤ 10) ⊎ (18 ≤ m)) → ((m + n ≤ 148) ⊎ (189 ≤ m)) → part m n (altered area a s) ≡ part m n s
  beside m n o o' =
      beside_rates m n (⊎_elim (λ h. inl (omega arith)) (λ h. inr h) o')
      ∙ part-text m n 148 (idled area a s) area a.filter (⊎_elim (λ h. inl h) (λ h. inr (omega arith)) o')
      ∙ beside_timeouts m n o

  pub part_low : (m n : ℕ) → m + n ≤ 10 → part m n (altered area a s) ≡ part m n s
  part_low m n h = beside m n (inl h) (inl (omega arith))

  pub part_middle : (m n : ℕ) → 18 ≤ m → m + n ≤ 148 → part m n (altered area a s) ≡ part m n s
  part_middle m n h g = beside m n (inr h) (inl g)

  pub part_high : (m n : ℕ) → 189 ≤ m → part m n (altered area a s) ≡ part m n s
  part_high m n h = beside m n (inr (omega arith)) (inr h)

  byte_by : (j : ℕ) → part j 1 (altered area a s) ≡ part j 1 s → get_or (altered area a s) j 0 ≡ get_or s j 0
  byte_by j e = same_byte (altered area a s) s j e

  -- bytes 189 to 191
  pub rest_kept : (j : ℕ) → 189 ≤ j → get_or (altered area a s) j 0 ≡ get_or s j 0
  rest_kept j h = byte_by j (part_high j 1 h)

  middle_byte : (j : ℕ) → 18 ≤ j → j < 148 → get_or (altered area a s) j 0 ≡ get_or s j 0
  middle_byte j h g = byte_by j (part_middle j 1 h (omega arith))

  text_by : (i : ℕ) → 18 ≤ i → i + 1 + get_or s i 0 ≤ 148 → text i (altered area a s) ≡ text i s
  unfolding text
  text_by i h g = rw (middle_byte i h (omega arith)) (part_middle (i + 1) (get_or s i 0) (omega arith) g)

  -- ---- a live slot

  module _ (l : live s ≡ true) where
    pub field_kept : (f : Field) → field_bytes f (altered area a s) ≡ field_bytes f s
    unfolding field_bytes
    field_kept UserName = text_by 18 (omega arith) (omega (arith, live_user s l))
    field_kept NasPort = part_low 2 4 (omega arith)
    field_kept FramedAddress = part_low 6 4 (omega arith)
    field_kept CallingStation = text_by 115 (omega arith) (omega (arith, live_station s l))
    field_kept SessionId = text_by 82 (omega arith) (omega (arith, live_id s l))

    filter_by : (x : Option Span) (u : List ℕ) → within 0 32 (get_or u 148 0) ≡ true → 181 ≤ length u → within 0 32 (get_or (set_text area x 148 u) 148 0) ≡ true
    unfolding set_text
    filter_by None u h g = h
    filter_by (Some r) u h g =
        let v : List ℕ = part r.at r.size area in
        let m : length (take 32 v) ≤ 32 = rw length-take (omega arith) in
        rw (head_there (write u 148 (text_field 32 v)) 148 32 v (field_written u 148 32 v (omega arith))) (within_is 0 32 (length (take 32 v)) (omega arith) m)

    pub filter_fits : 181 ≤ length s → within 0 32 (get_or (filtered area a s) 148 0) ≡ true
    filter_fits g =
        let b : get_or (idled area a s) 148 0 ≡ get_or s 148 0 = same_byte (idled area a s) s 148 (beside_timeouts 148 1 (inr (omega arith))) in
        filter_by a.filter (idled area a s) (rw b (live_filter s l)) (rw length_idled g)

    pub live-altered : 181 ≤ length s → live (altered area a s) ≡ true
    live-altered g =
        let b : get_or (altered area a s) 148 0 ≡ get_or (filtered area a s) 148 0 = same_byte _ _ 148 (beside_rates 148 1 (inl (omega arith))) in
        live_by s (altered area a s) (byte_by 0 (part_low 0 1 (omega arith))) (byte_by 1 (part_low 1 1 (omega arith))) (middle_byte 18 (omega arith) (omega arith)) (middle_byte 82 (omega arith) (omega arith)) (middle_byte 115 (omega arith) (omega arith))
        (rw b (filter_fits g) ∙ sym (live_filter s l))
        ∙ l

    -- ---- so every request names the slot as before

    all_by : (f g : Criterion → Bool) (cs : List Criterion) → ((c : Criterion) → f c ≡ g c) → all f cs ≡ all g cs
    all_by f g [] e = refl
    all_by f g (c ∷ cs) e = rw (e c, all_by f g cs e)

    meets_kept : (other : List ℕ) (c : Criterion) → meets other (altered area a s) c ≡ meets other s c
    unfolding meets
    meets_kept other c = rw (field_kept c.field)

    pub matches_kept : (other : List ℕ) (cs : List Criterion) → 181 ≤ length s → matches other cs (altered area a s) ≡ matches other cs s
    unfolding matches
    matches_kept other cs g = rw (live-altered g, l) (all_by (meets other (altered area a s)) (meets other s) cs (meets_kept other))
