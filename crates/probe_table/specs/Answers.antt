-- What the test exports answer in numbers.
-- Assumes nothing.
use Rattle.std.specs.Prelude.{Bool, cond, List, ℕ, eqb, length, Result, Ok, Err}
use Rattle.refusals.specs.declared.Refusal.{Refusal}
use Rattle.refusals.specs.Numbers.{refusal_number}

-- 0 done, 1 refused
abbrev pub answer : Bool → ℕ
answer ok = cond ok 0 1

-- 1 so, 0 not so
abbrev pub truth : Bool → ℕ
truth b = cond b 1 0

-- room for the marks, and no more
unfoldable pub marks_room : List ℕ → Bool
marks_room marks = eqb (length marks) 64

-- 0, or document 01's refusal number
abbrev pub insert_number : Result ℕ Refusal → ℕ
insert_number (Ok k) = 0
insert_number (Err r) = refusal_number r

-- the slot of a new session, or what stood there before
abbrev pub insert_slot : Result ℕ Refusal → ℕ → ℕ
insert_slot (Ok k) before = k
insert_slot (Err r) before = before

abbrev pub remove_number : Result (Unit {0}) Refusal → ℕ
remove_number (Ok done) = 0
remove_number (Err r) = refusal_number r
