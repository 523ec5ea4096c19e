-- The record of a session: its fields, and the bytes of its slot (document 01, "The session table").
-- Assumes nothing.
use Rattle.std.specs.Prelude.{Bool, ◌&&◌, List, [], ◌∷◌, ◌++◌, ℕ, ◌-◌, length, take, replicate}
use Rattle.octet_numbers.specs.Numbers.{be_bytes}
use Rattle.table_slots.specs.Slot.{within}

-- a text field of 1 + cap bytes: length, value, zeros. Cause 506 and refusal R8 keep a value to cap bytes; of a longer one the first cap are taken.
unfoldable pub text_field : ℕ → List ℕ → List ℕ
text_field cap v = length (take cap v) ∷ take cap v ++ replicate (cap - length (take cap v)) 0

pub record Session : Type 0 where
  pub port : ℕ
  pub address : ℕ
  pub timeout : ℕ
  pub idle : ℕ
  pub user : List ℕ
  pub id : List ℕ
  pub station : List ℕ
  pub filter : List ℕ

-- the session of these fields
abbrev pub session_of : ℕ → ℕ → ℕ → ℕ → List ℕ → List ℕ → List ℕ → List ℕ → Session
session_of port address timeout idle user id station filter = record {
  port = port;
  address = address;
  timeout = timeout;
  idle = idle;
  user = user;
  id = id;
  station = station;
  filter = filter;
}

-- all 192 bytes of its slot: a start writes zero rates, down and up, and 189 to 191 stay zero
unfoldable pub record_of : Session → List ℕ
record_of x =
    (0x5A ∷ 0x4C ∷ [])
    ++ be_bytes 4 x.port
    ++ be_bytes 4 x.address
    ++ be_bytes 4 x.timeout
    ++ be_bytes 4 x.idle
    ++ text_field 63 x.user
    ++ text_field 32 x.id
    ++ text_field 32 x.station
    ++ text_field 32 x.filter
    ++ be_bytes 4 0
    ++ be_bytes 4 0
    ++ replicate 3 0

-- R8 does not apply: the length of every text is within the record's limits
unfoldable pub fits_record : Session → Bool
fits_record x = within 1 63 (length x.user) && (within 1 32 (length x.id) && (within 0 32 (length x.station) && within 0 32 (length x.filter)))
