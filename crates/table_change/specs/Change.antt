-- How a slot is ended or altered, and the slots of a table that are named or marked (document 01, "The session table").
-- Assumes nothing.
use Rattle.std.specs.Prelude.{Option, None, Some}
use Rattle.octet_runs.specs.declared.span.Span.{Span}
use Rattle.std.specs.Prelude.{Bool, ◌&&◌, cond, List, ℕ, zero, suc, ◌*◌, eqb, get_or, replicate}
use Rattle.octet_numbers.specs.Numbers.{be_bytes}
use Rattle.octet_numbers.specs.Runs.{part, write}
use Rattle.table_slots.specs.Slot.{live, slot}
use Rattle.table_slots.specs.Marks.{count_to}
use Rattle.table_records.specs.Record.{text_field}
use Rattle.table_change.specs.declared.Change.{Change}
use Rattle.table_change.specs.declared.Change.TheVariants.{End, Alter}
use Rattle.table_change.specs.declared.Alteration.{Alteration}

-- all 32 bits of a number, where the request names it
unfoldable pub set_number : Option ℕ → ℕ → List ℕ → List ℕ
set_number None i s = s
set_number (Some v) i s = write s i (be_bytes 4 v)

-- a text, of which at most 32 bytes are kept: a part of the area of the request's attributes, where the request names it
unfoldable pub set_text : List ℕ → Option Span → ℕ → List ℕ → List ℕ
set_text area None i s = s
set_text area (Some r) i s = write s i (text_field 32 (part r.at r.size area))

-- a slot with the fields that a CoA names: Session-Timeout, Idle-Timeout, Filter-Id, down rate, up rate
unfoldable pub altered : List ℕ → Alteration → List ℕ → List ℕ
altered area a s =
    set_number a.up 185 (set_number a.down 181 (set_text area a.filter 148 (set_number a.idle 14 (set_number a.timeout 10 s))))

-- a slot ended or altered
unfoldable pub changed : List ℕ → Change → List ℕ → List ℕ
changed area End s = replicate 192 0
changed area (Alter a) s = altered area a s

-- a table with slot k ended or altered
unfoldable pub change_at : List ℕ → Change → ℕ → List ℕ → List ℕ
change_at area c k t = write t (k * 192) (changed area c (slot k t))

-- the table with each of its first k slots that f names changed
unfoldable pub change_where : List ℕ → Change → (ℕ → Bool) → ℕ → List ℕ → List ℕ
change_where area c f zero t = t
change_where area c f (suc k) t = cond (f k) (change_at area c k (change_where area c f k t)) (change_where area c f k t)

-- slot k is marked and live
abbrev pub marked : List ℕ → List ℕ → ℕ → Bool
marked marks t k = eqb (get_or marks k 0) 1 && live (slot k t)

-- the table with each of its first k slots that is marked and live changed
unfoldable pub change_marked : List ℕ → Change → List ℕ → ℕ → List ℕ → List ℕ
change_marked area c marks k t = change_where area c (marked marks t) k t

-- how many of them there are
unfoldable pub count_marked : List ℕ → ℕ → List ℕ → ℕ
count_marked marks k t = count_to (marked marks t) k
