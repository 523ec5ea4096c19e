-- What C is told of a call on a scheduler: the answer's number, and the numbers beside it, which a refusal leaves as they were.
-- Assumes nothing.
use Rattle.std.specs.Prelude.{ℕ, Option, Some, None}
use Rattle.das_answer.specs.declared.Answer.{Answer}
use Rattle.das_answer.specs.declared.Answer.TheVariants as A
use Rattle.sched_state.specs.declared.Outcome as O
use Rattle.sched_state.specs.declared.Outcome.TheVariants.{Refused, Discarded, Opened, Going, Done, Dropped, Started, Ended}
use Rattle.c_numbers.specs.declared.numbers.Told.{Told}
use Rattle.c_numbers.specs.Numbers.{alone, answer_told}

-- a refusal, a discard and a finished request: as whole handling tells the same answer; 600 not finished; else 0, done
unfoldable pub told_by : O.Outcome → Told → Told
told_by (Refused r) old = answer_told (A.Refused r) old
told_by (Discarded d) old = answer_told (A.Discarded d) old
told_by (Opened j) old = alone 0
told_by Going old = alone 600
told_by (Done a) old = answer_told a (alone 0)
told_by Dropped old = alone 0
told_by (Started k) old = alone 0
told_by Ended old = alone 0

-- the answer's number, for a call that gives no numbers beside it
unfoldable pub number_by : O.Outcome → ℕ
number_by o = (told_by o (alone 0)).answer

-- the job that was opened, or the slot of the session that was started
unfoldable pub place_by : O.Outcome → ℕ → ℕ
place_by (Refused r) old = old
place_by (Discarded d) old = old
place_by (Opened j) old = j
place_by Going old = old
place_by (Done a) old = old
place_by Dropped old = old
place_by (Started k) old = k
place_by Ended old = old

-- for inner contracts: the outcome of a step that is not refused
abbrev pub outcome_of : Option Answer → O.Outcome
outcome_of None = Going
outcome_of (Some a) = Done a
