-- What a pass keeps of the attributes of each type: how many there are, 2 for any more, and end and length of the first.
-- For inner contracts and proofs: what the counts stand for is said in specs/Survey.antt.
-- Assumes nothing.
use Rattle.std.specs.Prelude.{Bool, cond, not, List, ℕ, eqb, get_or, set, replicate}
use Rattle.attr_survey.specs.declared.counts.Noted.{Noted}

abbrev pub none_noted : Noted
none_noted = record { number = 0; end = 0; size = 0 }

-- nothing noted yet
unfoldable pub blank : List Noted
blank = replicate 256 none_noted

-- what is kept of type k
abbrev pub noted_at : List Noted → ℕ → Noted
noted_at noted k = get_or noted k none_noted

-- a type was counted
abbrev pub seen_at : List Noted → ℕ → Bool
seen_at noted k = not (eqb (noted_at noted k).number 0)

-- one more: the first is kept, any more is counted as 2
unfoldable pub noted_more : Noted → ℕ → ℕ → Noted
noted_more x end size = cond (eqb x.number 0) (record { number = 1; end = end; size = size }) (record { number = 2; end = x.end; size = x.size })

-- one more of type k
unfoldable pub note_at : List Noted → ℕ → ℕ → ℕ → List Noted
note_at noted k end size = set noted k (noted_more (noted_at noted k) end size)
