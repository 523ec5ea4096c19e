-- A recorded session is live, and each of its eight fields is read back, with zero rates: each piece of the record lies where the field is read.
-- Assumes nothing.
use mathlib.Core.Path.{◌≡◌, refl, sym, ap, ◌∙◌}
use mathlib.Core.Bool.{true, ◌&&◌}
use mathlib.Core.List.{List, [], ◌∷◌}
use Prim.Native.Nat.{ℕ, ◌+◌, ◌^◌, ◌<◌}
use native.Mathlib.Nat.{add-zero}
use native.Mathlib.Omega.{arith}
use lib.Dec.{lit<}
use lib.ListN.{length, get_or, replicate, length-replicate}
use Rattle.octet_numbers.specs.Numbers.{be, be_bytes}
use Rattle.octet_numbers.specs.Runs.{part}
use Rattle.octet_numbers.proofs.Numbers.{length-be_bytes, be-part, be-written}
use Rattle.octet_numbers.proofs.Write.{write_whole}
use Rattle.table_slots.specs.Slot.{live, within, nas_port, framed_address, session_timeout, idle_timeout, user_name, session_id, calling_station, filter_id}
use Rattle.table_slots.specs.Slot.{down_rate, up_rate}
use Rattle.table_slots.proofs.Apart.{and_left, and_right}
use Rattle.table_slots.proofs.Live.{within_high}
use Rattle.table_records.specs.Record.{text_field}
use Rattle.table_records.specs.Record.{Session, record_of, fits_record}
use Rattle.table_records.proofs.Fields.{length-text_field}
use Rattle.table_records.proofs.Texts.{head_there, text_there, take_fits}
use Rattle.table_records.proofs.Pieces.{Sized, piece_port, piece_address, piece_timeout, piece_idle, piece_user, piece_id, piece_station, piece_filter}
use Rattle.table_records.proofs.Pieces.{piece_down, piece_up, pieces_length}

bytes_read : (v : ℕ) → v < 2 ^ 32 → be 0 4 (be_bytes 4 v) ≡ v
bytes_read v h =
    let l : length (be_bytes 4 v) ≡ 4 = length-be_bytes 4 v in
    ap (be 0 4) (sym (write_whole (be_bytes 4 v) (be_bytes 4 v) refl)) ∙ be-written 4 (be_bytes 4 v) 0 v h (omega arith)

number_read : (l : List ℕ) (i v : ℕ) → part i 4 l ≡ be_bytes 4 v → v < 2 ^ 32 → be i 4 l ≡ v
number_read l i v e h =
    ap (λ (k : ℕ). be k 4 l) (sym (add-zero i)) ∙ sym (be-part 4 l i 4 0 (omega arith)) ∙ ap (be 0 4) e ∙ bytes_read v h

-- ---- where the pieces of the record lie

module _ (x : Session) where
  sized : Sized (0x5A ∷ 0x4C ∷ []) (be_bytes 4 x.port) (be_bytes 4 x.address) (be_bytes 4 x.timeout) (be_bytes 4 x.idle)
      (text_field 63 x.user) (text_field 32 x.id) (text_field 32 x.station) (text_field 32 x.filter) (be_bytes 4 0) (be_bytes 4 0) (replicate 3 0)
  sized = record {
    mark = refl;
    port = length-be_bytes 4 x.port;
    address = length-be_bytes 4 x.address;
    timeout = length-be_bytes 4 x.timeout;
    idle = length-be_bytes 4 x.idle;
    user = length-text_field 63 x.user;
    id = length-text_field 32 x.id;
    station = length-text_field 32 x.station;
    filter = length-text_field 32 x.filter;
    down = length-be_bytes 4 0;
    up = length-be_bytes 4 0;
    rest = length-replicate {A = ℕ} 3 0;
  }

  pub recorded_length : length (record_of x) ≡ 192
  unfolding record_of
  recorded_length = pieces_length sized

  at_user : part 18 64 (record_of x) ≡ text_field 63 x.user
  unfolding record_of
  at_user = piece_user sized

  at_id : part 82 33 (record_of x) ≡ text_field 32 x.id
  unfolding record_of
  at_id = piece_id sized

  at_station : part 115 33 (record_of x) ≡ text_field 32 x.station
  unfolding record_of
  at_station = piece_station sized

  at_filter : part 148 33 (record_of x) ≡ text_field 32 x.filter
  unfolding record_of
  at_filter = piece_filter sized

  -- ---- the numbers

  pub recorded_port : x.port < 2 ^ 32 → nas_port (record_of x) ≡ x.port
  unfolding record_of
  recorded_port h = number_read _ 2 x.port (piece_port sized) h

  pub recorded_address : x.address < 2 ^ 32 → framed_address (record_of x) ≡ x.address
  unfolding record_of
  recorded_address h = number_read _ 6 x.address (piece_address sized) h

  pub recorded_timeout : x.timeout < 2 ^ 32 → session_timeout (record_of x) ≡ x.timeout
  unfolding record_of
  recorded_timeout h = number_read _ 10 x.timeout (piece_timeout sized) h

  pub recorded_idle : x.idle < 2 ^ 32 → idle_timeout (record_of x) ≡ x.idle
  unfolding record_of
  recorded_idle h = number_read _ 14 x.idle (piece_idle sized) h

  -- the rates of a new session
  pub recorded_down : down_rate (record_of x) ≡ 0
  unfolding record_of
  recorded_down = number_read _ 181 0 (piece_down sized) (lit< tt)

  pub recorded_up : up_rate (record_of x) ≡ 0
  unfolding record_of
  recorded_up = number_read _ 185 0 (piece_up sized) (lit< tt)

  -- ---- the texts, which keep to their limits

  module _ (fits : fits_record x ≡ true) where
    limits : (within 1 63 (length x.user) && (within 1 32 (length x.id) && (within 0 32 (length x.station) && within 0 32 (length x.filter)))) ≡ true
    unfolding fits_record
    limits = fits

    user_fits : within 1 63 (length x.user) ≡ true
    user_fits = let h = limits in search (and_left, and_right) depth 8

    id_fits : within 1 32 (length x.id) ≡ true
    id_fits = let h = limits in search (and_left, and_right) depth 8

    station_fits : within 0 32 (length x.station) ≡ true
    station_fits = let h = limits in search (and_left, and_right) depth 8

    filter_fits : within 0 32 (length x.filter) ≡ true
    filter_fits = let h = limits in search (and_left, and_right) depth 8

    pub recorded_user : user_name (record_of x) ≡ x.user
    recorded_user = text_there (record_of x) 18 63 x.user at_user ∙ take_fits 63 x.user (within_high 1 63 _ user_fits)

    pub recorded_id : session_id (record_of x) ≡ x.id
    recorded_id = text_there (record_of x) 82 32 x.id at_id ∙ take_fits 32 x.id (within_high 1 32 _ id_fits)

    pub recorded_station : calling_station (record_of x) ≡ x.station
    recorded_station = text_there (record_of x) 115 32 x.station at_station ∙ take_fits 32 x.station (within_high 0 32 _ station_fits)

    pub recorded_filter : filter_id (record_of x) ≡ x.filter
    recorded_filter = text_there (record_of x) 148 32 x.filter at_filter ∙ take_fits 32 x.filter (within_high 0 32 _ filter_fits)

    -- a length byte within its limits
    head_fits : (i lo cap : ℕ) (v : List ℕ) → part i (cap + 1) (record_of x) ≡ text_field cap v → within lo cap (length v) ≡ true → within lo cap (get_or (record_of x) i 0) ≡ true
    head_fits i lo cap v e h = rw (head_there (record_of x) i cap v e, take_fits cap v (within_high lo cap (length v) h)) h

    first : get_or (record_of x) 0 0 ≡ 0x5A
    unfolding record_of
    first = refl

    second : get_or (record_of x) 1 0 ≡ 0x4C
    unfolding record_of
    second = refl

    pub recorded_live : live (record_of x) ≡ true
    unfolding live
    recorded_live = rw (first, second, head_fits 18 1 63 x.user at_user user_fits, head_fits 82 1 32 x.id at_id id_fits, head_fits 115 0 32 x.station at_station station_fits, head_fits 148 0 32 x.filter at_filter filter_fits)
