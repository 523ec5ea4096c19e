-- The marks of a walk over the slots: 1 for each slot so far that f names.
-- Assumes nothing.
use Rattle.std.specs.Prelude.{Bool, cond, List, ℕ, zero, suc, ◌+◌, set, replicate}

-- 64 marks, none set
unfoldable pub no_marks : List ℕ
no_marks = replicate 64 0

-- the marks after the first k slots
unfoldable pub marks_after : (ℕ → Bool) → ℕ → List ℕ
marks_after f zero = no_marks
marks_after f (suc k) = cond (f k) (set (marks_after f k) k 1) (marks_after f k)

-- how many of the first k slots f names
unfoldable pub count_to : (ℕ → Bool) → ℕ → ℕ
count_to f zero = 0
count_to f (suc k) = cond (f k) (count_to f k + 1) (count_to f k)
