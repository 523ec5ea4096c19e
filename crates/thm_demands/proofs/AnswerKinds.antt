-- A property claimed of one kind of answer of a call on a scheduler, and of no other kind. So a claim on every call that ends in that kind is
-- proved along the cases of the call's definition, and the cases with another answer need no argument.
-- Assumes nothing.
use Rattle.refusals.specs.declared.Refusal.{Refusal}
use Rattle.refusals.specs.declared.Discard.{Discard}
use Rattle.das_answer.specs.declared.Answer as A
use Rattle.sched_state.specs.declared.Outcome as D
use Rattle.sched_state.specs.declared.Outcome.TheVariants as O

-- what holds of a refusal; of any other answer nothing
abbrev pub WhenRefused : (Refusal → Type 0) → D.Outcome → Type 0
WhenRefused P (O.Refused n) = P n
WhenRefused P (O.Discarded d) = Unit {0}
WhenRefused P (O.Opened j) = Unit {0}
WhenRefused P O.Going = Unit {0}
WhenRefused P (O.Done a) = Unit {0}
WhenRefused P O.Dropped = Unit {0}
WhenRefused P (O.Started k) = Unit {0}
WhenRefused P O.Ended = Unit {0}

-- what holds of the answer that finishes a job
abbrev pub WhenDone : (A.Answer → Type 0) → D.Outcome → Type 0
WhenDone P (O.Refused n) = Unit {0}
WhenDone P (O.Discarded d) = Unit {0}
WhenDone P (O.Opened j) = Unit {0}
WhenDone P O.Going = Unit {0}
WhenDone P (O.Done a) = P a
WhenDone P O.Dropped = Unit {0}
WhenDone P (O.Started k) = Unit {0}
WhenDone P O.Ended = Unit {0}

-- what holds of a discard
abbrev pub WhenDiscarded : (Discard → Type 0) → D.Outcome → Type 0
WhenDiscarded P (O.Refused n) = Unit {0}
WhenDiscarded P (O.Discarded d) = P d
WhenDiscarded P (O.Opened j) = Unit {0}
WhenDiscarded P O.Going = Unit {0}
WhenDiscarded P (O.Done a) = Unit {0}
WhenDiscarded P O.Dropped = Unit {0}
WhenDiscarded P (O.Started k) = Unit {0}
WhenDiscarded P O.Ended = Unit {0}
