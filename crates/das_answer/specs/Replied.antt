-- What an answer tells: whether there is a reply, and its length.
-- Assumes nothing.
use Rattle.std.specs.Prelude.{Bool, true, false, ℕ}
use Rattle.das_answer.specs.declared.Answer as D
use Rattle.das_answer.specs.declared.Answer.TheVariants.{Refused, Discarded, Stale, Nak, Ack}

-- refused or discarded
abbrev pub silent : D.Answer → Bool
silent (Refused n) = true
silent (Discarded d) = true
silent (Stale skew) = true
silent (Nak c skew n) = false
silent (Ack k skew n) = false

-- the reply's length, 0 where there is none
abbrev pub reply_size : D.Answer → ℕ
reply_size (Refused n) = 0
reply_size (Discarded d) = 0
reply_size (Stale skew) = 0
reply_size (Nak c skew n) = n
reply_size (Ack k skew n) = n
