-- What C holds after an answer: a refusal alone gives back the stamp of 2 that was told before, and then nothing is written; any other answer tells
-- the same whatever was told before, and all of it is written. By each answer.
-- Assumes nothing.
use mathlib.Core.Path.{◌≡◌, refl, ◌∙◌}
use mathlib.Core.Bool.{cond}
use Prim.Native.Nat.{ℕ}
use lib.Dec.{eqb}
use Rattle.std.specs.Prelude.{ℤ, pos}
use Rattle.das_answer.specs.declared.Answer as D
use Rattle.das_answer.specs.declared.Answer.TheVariants as A
use Rattle.sched_state.specs.declared.Outcome as O
use Rattle.sched_state.specs.declared.Outcome.TheVariants.{Refused, Discarded, Opened, Going, Done, Dropped, Started, Ended}
use Rattle.c_numbers.specs.declared.numbers.Told.{Told}
use Rattle.c_numbers.specs.Numbers.{told, alone, answer_told}
use Rattle.c_told.specs.Told.{told_by}

-- what is told before an answer is known
abbrev untold : Told
untold = told 0 0 0 (pos 0) 2

-- what C holds where it held old and is told v
abbrev left : Told → Told → Told
left v old = cond (eqb v.stamped 2) (told v.answer old.changed old.length old.skew old.stamped) v

by_answer : (a : D.Answer) (old : Told) → left (answer_told a untold) old ≡ answer_told a old
unfolding answer_told
by_answer (A.Refused r) old = refl
by_answer (A.Discarded d) old = refl
by_answer (A.Stale k) old = refl
by_answer (A.Nak c k n) old = refl
by_answer (A.Ack m k n) old = refl

-- a finished request is told with 0 before it
finished : (a : D.Answer) (old : Told) → left (answer_told a (alone 0)) old ≡ answer_told a (alone 0)
unfolding answer_told
finished (A.Refused r) old = refl
finished (A.Discarded d) old = refl
finished (A.Stale k) old = refl
finished (A.Nak c k n) old = refl
finished (A.Ack m k n) old = refl

by_outcome : (o : O.Outcome) (old : Told) → left (told_by o untold) old ≡ told_by o old
unfolding told_by
by_outcome (Refused r) old = by_answer (A.Refused r) old
by_outcome (Discarded d) old = by_answer (A.Discarded d) old
by_outcome (Opened j) old = refl
by_outcome Going old = refl
by_outcome (Done a) old = finished a old
by_outcome Dropped old = refl
by_outcome (Started k) old = refl
by_outcome Ended old = refl

-- n is what C holds, v what it is told, u what was told before; c, s, k and m are the numbers that C lent
module _
    (n v u : Told) (c s : ℕ) (k : ℤ) (m : ℕ)
    (holds : n ≡ cond (eqb v.stamped 2) (told v.answer c s k m) v) (before : u ≡ told 0 0 0 (pos 0) 2) where
  pub answer_left : (a x : D.Answer) → v ≡ answer_told a u → a ≡ x → n ≡ answer_told x (told 0 c s k m)
  answer_left a x e is = holds ∙ rw (e, before, is) (by_answer x (told 0 c s k m))

  pub outcome_left : (o : O.Outcome) → v ≡ told_by o u → n ≡ told_by o (told 0 c s k m)
  outcome_left o e = holds ∙ rw (e, before) (by_outcome o (told 0 c s k m))
