-- The session table (document 01, "The session table"): slots of 192 bytes, one after the other.
-- Assumes nothing.
use Rattle.std.specs.Prelude.{Bool, ◌&&◌, cond, List, ℕ, ◌+◌, ◌*◌, ◌/◌, ◌%◌, eqb, leb, length, get_or}
use Rattle.octet_numbers.specs.Numbers.{be}
use Rattle.octet_numbers.specs.Runs.{part}

-- the number of slots of a table: its length is 192 times 1..64, else there are none (R1)
unfoldable pub slot_count : List ℕ → ℕ
slot_count t = cond (eqb (length t % 192) 0 && leb (length t / 192) 64) (length t / 192) 0

-- slot k
unfoldable pub slot : ℕ → List ℕ → List ℕ
slot k t = part (k * 192) 192 t

-- lo ≤ n ≤ hi
unfoldable pub within : ℕ → ℕ → ℕ → Bool
within lo hi n = leb lo n && leb n hi

-- live exactly if the record's mark and four lengths are as in the layout; any other content is a free slot
unfoldable pub live : List ℕ → Bool
live s =
    eqb (get_or s 0 0) 0x5A
    && (eqb (get_or s 1 0) 0x4C
    && (within 1 63 (get_or s 18 0)
    && (within 1 32 (get_or s 82 0)
    && (within 0 32 (get_or s 115 0)
    && within 0 32 (get_or s 148 0)))))

-- the text whose length stands at place i
unfoldable pub text : ℕ → List ℕ → List ℕ
text i s = part (i + 1) (get_or s i 0) s

-- the fields
abbrev pub nas_port : List ℕ → ℕ
nas_port s = be 2 4 s

abbrev pub framed_address : List ℕ → ℕ
framed_address s = be 6 4 s

abbrev pub session_timeout : List ℕ → ℕ
session_timeout s = be 10 4 s

abbrev pub idle_timeout : List ℕ → ℕ
idle_timeout s = be 14 4 s

abbrev pub user_name : List ℕ → List ℕ
user_name s = text 18 s

abbrev pub session_id : List ℕ → List ℕ
session_id s = text 82 s

abbrev pub calling_station : List ℕ → List ℕ
calling_station s = text 115 s

abbrev pub filter_id : List ℕ → List ℕ
filter_id s = text 148 s

abbrev pub down_rate : List ℕ → ℕ
down_rate s = be 181 4 s

abbrev pub up_rate : List ℕ → ℕ
up_rate s = be 185 4 s
