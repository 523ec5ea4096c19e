-- Terms in which the laws on steps are stated: a step finished in ACK, a step finished with a reply, a job awaits Commit.
-- Assumes nothing.
use Rattle.std.specs.Prelude.{Bool, false, not, List, ℕ, ltb}
use Rattle.table_slots.specs.Slot.{slot_count}
use Rattle.das_answer.specs.declared.Answer as A'
use Rattle.das_answer.specs.Replied.{silent}
use Rattle.sched_job.specs.declared.Stage as S
use Rattle.sched_job.specs.declared.Stage.TheVariants.{Free, Hash, Check, Match}
use Rattle.sched_state.specs.declared.Outcome as O
use Rattle.sched_state.specs.declared.Outcome.TheVariants.{Refused, Discarded, Opened, Going, Done, Dropped, Started, Ended}
use Rattle.sched_state.specs.Calls.{is_ack}

-- a step finished, with an answer of which f holds
abbrev pub done_with : (A'.Answer → Bool) → O.Outcome → Bool
done_with f (Refused r) = false
done_with f (Discarded d) = false
done_with f (Opened j) = false
done_with f Going = false
done_with f (Done a) = f a
done_with f Dropped = false
done_with f (Started k) = false
done_with f Ended = false

-- the answer has a reply
abbrev pub replied : A'.Answer → Bool
replied a = not (silent a)

-- finished in ACK
abbrev pub acks : O.Outcome → Bool
acks o = done_with is_ack o

-- finished in ACK or NAK
abbrev pub replies : O.Outcome → Bool
replies o = done_with replied o

-- a job at this stage awaits Commit
abbrev pub awaits : S.Stage → List ℕ → Bool
awaits Free t = false
awaits (Hash k) t = false
awaits Check t = false
awaits (Match k) t = not (ltb k (slot_count t))
