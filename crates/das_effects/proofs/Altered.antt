-- What a CoA leaves of a matching session: the fields that it names are its values, whole, since 32 bits take any four bytes and a text 32 bytes; every other field is beside what it writes.
-- Assumes nothing.
use mathlib.Core.Path.{◌≡◌, sym, ap, ◌∙◌}
use mathlib.Core.Bool.{true}
use mathlib.Core.List.{List}
use Prim.Native.Nat.{ℕ, ◌+◌, ◌-◌, ◌^◌, ◌≤◌, ◌<◌}
use native.Mathlib.Nat.{add-zero}
use native.Mathlib.Omega.{arith}
use mir.Syntax.{w8}
use mir.Val.{Fits}
use lib.ListN.{length, get_or, take, drop, length-take}
use lib.Seq.{take_all}
use Rattle.octet_numbers.specs.Numbers.{be}
use Rattle.octet_numbers.specs.Runs.{part}
use Rattle.octet_numbers.proofs.Numbers.{be-part}
use Rattle.attr_walk.specs.declared.Attribute.{Attribute}
use Rattle.std.specs.Prelude.{Some, None}
use Rattle.attr_walk.specs.Attributes.{attributes, value_of, first_of, kind_is}
use Rattle.table_criteria.specs.declared.Field.TheVariants.{UserName, CallingStation, SessionId}
use Rattle.table_slots.specs.Slot.{slot_count, slot, live, nas_port, framed_address, session_timeout, idle_timeout, user_name, session_id, calling_station, filter_id}
use Rattle.table_slots.specs.Slot.{down_rate, up_rate}
use Rattle.table_criteria.specs.Meets.{field_bytes}
use Rattle.table_slots.proofs.Count.{slot_fits}
use Rattle.table_slots.proofs.Places.{length-slot}
use Rattle.table_change.specs.declared.Alteration.{Alteration}
use Rattle.table_change.specs.Change.{altered, changed}
use Rattle.table_change.proofs.Untouched.{part_low, field_kept, live-altered}
use Rattle.table_change.proofs.Written.{timeout_set, timeout_kept, idle_set, idle_kept, filter_set, filter_kept, down_set, down_kept, up_set, up_kept}
use Rattle.das_effects.specs.Matching.{matches_in}
use Rattle.das_effects.specs.Changes.{number_at, text_at, rates_named, alteration_of, change_of, change_matching}
use Rattle.das_effects.proofs.Marked.{matching_live}
use Rattle.das_effects.proofs.Outcomes.{slot_matching}

-- four bytes are a number of 32 bits
low : (l : List ℕ) (at : ℕ) → ((i : ℕ) → Fits w8 (get_or l i 0)) → be at 4 l < 2 ^ 32
unfolding be
low l at f = omega (arith, f (at + 0), f (at + 1), f (at + 2), f (at + 3))

-- a value of at most 32 bytes is taken whole
whole : (area : List ℕ) (a : Attribute) → a.size ≤ 34 → take 32 (part (a.at + 2) (a.size - 2) area) ≡ value_of area a
unfolding part value_of
whole area a h = take_all 32 (take (a.size - 2) (drop (a.at + 2) area)) (rw length-take (omega arith))

-- a number of the first ten bytes
be_low : (p : List ℕ) (a : Alteration) (s : List ℕ) (i : ℕ) → i + 4 ≤ 10 → be i 4 (altered p a s) ≡ be i 4 s
be_low p a s i h = sym (of (altered p a s)) ∙ ap (be 0 4) (part_low p a s i 4 h) ∙ of s
  where
    of : (l : List ℕ) → be 0 4 (part i 4 l) ≡ be i 4 l
    of l = be-part 4 l i 4 0 (omega arith) ∙ ap (λ (j : ℕ). be j 4 l) (add-zero i)

module _ (area t : List ℕ) (k : ℕ) (h : k < slot_count t) (m : matches_in area t k ≡ true) where
  slot_is : slot k (change_matching 43 area t) ≡ altered area (alteration_of area) (slot k t)
  unfolding change_of changed
  slot_is = slot_matching 43 area t k h m

  long : length (slot k t) ≡ 192
  long = length-slot t k (slot_fits t k h)

  was : live (slot k t) ≡ true
  was = matching_live area (slot k t) m

  -- ---- the fields that it names, and not

  pub timeout_after : (a : Attribute) → first_of (kind_is 27) (attributes area) ≡ Some a → ((i : ℕ) → Fits w8 (get_or area i 0))
      → session_timeout (slot k (change_matching 43 area t)) ≡ be (a.at + 2) 4 area
  unfolding alteration_of
  timeout_after a e f = ap session_timeout slot_is ∙ timeout_set area (alteration_of area) (slot k t) (be (a.at + 2) 4 area) (ap (number_at area) e) (low area (a.at + 2) f) (rw long (omega arith))

  pub timeout_same : first_of (kind_is 27) (attributes area) ≡ None → session_timeout (slot k (change_matching 43 area t)) ≡ session_timeout (slot k t)
  unfolding alteration_of
  timeout_same e = ap session_timeout slot_is ∙ timeout_kept area (alteration_of area) (slot k t) (ap (number_at area) e)

  pub idle_after : (a : Attribute) → first_of (kind_is 28) (attributes area) ≡ Some a → ((i : ℕ) → Fits w8 (get_or area i 0))
      → idle_timeout (slot k (change_matching 43 area t)) ≡ be (a.at + 2) 4 area
  unfolding alteration_of
  idle_after a e f = ap idle_timeout slot_is ∙ idle_set area (alteration_of area) (slot k t) (be (a.at + 2) 4 area) (ap (number_at area) e) (low area (a.at + 2) f) (rw long (omega arith))

  pub idle_same : first_of (kind_is 28) (attributes area) ≡ None → idle_timeout (slot k (change_matching 43 area t)) ≡ idle_timeout (slot k t)
  unfolding alteration_of
  idle_same e = ap idle_timeout slot_is ∙ idle_kept area (alteration_of area) (slot k t) (ap (number_at area) e)

  pub filter_after : (a : Attribute) → first_of (kind_is 11) (attributes area) ≡ Some a → a.size ≤ 34 → filter_id (slot k (change_matching 43 area t)) ≡ value_of area a
  unfolding alteration_of
  filter_after a e g =
      ap filter_id slot_is ∙ filter_set area (alteration_of area) (slot k t) (record { at = a.at + 2; size = a.size - 2 }) (ap text_at e) (rw long (omega arith)) ∙ whole area a g

  pub filter_same : first_of (kind_is 11) (attributes area) ≡ None → filter_id (slot k (change_matching 43 area t)) ≡ filter_id (slot k t)
  unfolding alteration_of
  filter_same e = ap filter_id slot_is ∙ filter_kept area (alteration_of area) (slot k t) (ap text_at e) was (rw long (omega arith))

  -- the rates, however the request names them
  pub down_after : (v : ℕ) → (rates_named area).down ≡ Some v → v < 2 ^ 32 → down_rate (slot k (change_matching 43 area t)) ≡ v
  unfolding alteration_of
  down_after v e f = ap down_rate slot_is ∙ down_set area (alteration_of area) (slot k t) v e f (rw long (omega arith))

  pub down_same : (rates_named area).down ≡ None → down_rate (slot k (change_matching 43 area t)) ≡ down_rate (slot k t)
  unfolding alteration_of
  down_same e = ap down_rate slot_is ∙ down_kept area (alteration_of area) (slot k t) e

  pub up_after : (v : ℕ) → (rates_named area).up ≡ Some v → v < 2 ^ 32 → up_rate (slot k (change_matching 43 area t)) ≡ v
  unfolding alteration_of
  up_after v e f = ap up_rate slot_is ∙ up_set area (alteration_of area) (slot k t) v e f (rw long (omega arith))

  pub up_same : (rates_named area).up ≡ None → up_rate (slot k (change_matching 43 area t)) ≡ up_rate (slot k t)
  unfolding alteration_of
  up_same e = ap up_rate slot_is ∙ up_kept area (alteration_of area) (slot k t) e

  -- ---- the fields that no CoA writes

  pub port_same : nas_port (slot k (change_matching 43 area t)) ≡ nas_port (slot k t)
  port_same = ap nas_port slot_is ∙ be_low area (alteration_of area) (slot k t) 2 (omega arith)

  pub address_same : framed_address (slot k (change_matching 43 area t)) ≡ framed_address (slot k t)
  address_same = ap framed_address slot_is ∙ be_low area (alteration_of area) (slot k t) 6 (omega arith)

  pub user_same : user_name (slot k (change_matching 43 area t)) ≡ user_name (slot k t)
  unfolding field_bytes
  user_same = ap user_name slot_is ∙ field_kept area (alteration_of area) (slot k t) was UserName

  pub id_same : session_id (slot k (change_matching 43 area t)) ≡ session_id (slot k t)
  unfolding field_bytes
  id_same = ap session_id slot_is ∙ field_kept area (alteration_of area) (slot k t) was SessionId

  pub station_same : calling_station (slot k (change_matching 43 area t)) ≡ calling_station (slot k t)
  unfolding field_bytes
  station_same = ap calling_station slot_is ∙ field_kept area (alteration_of area) (slot k t) was CallingStation

  pub live-after : live (slot k (change_matching 43 area t)) ≡ true
  live-after = ap live slot_is ∙ live-altered area (alteration_of area) (slot k t) was (rw long (omega arith))
