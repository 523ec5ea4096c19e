-- The reply buffer after an answer: only a NAK or an ACK writes it, at its start; the bytes after the reply stay (document 01, "Reply").
-- Assumes nothing.
use Rattle.std.specs.Prelude.{List, ℕ, ℤ, Option, Some, None}
use Rattle.octet_numbers.specs.Runs.{write}
use Rattle.rule_causes.specs.declared.cause.Cause as C
use Rattle.das_reply_parts.specs.Reply.{reply_of}
use Rattle.das_answer.specs.declared.Answer as D
use Rattle.das_answer.specs.declared.Answer.TheVariants as A

-- the buffer b after the answer to the request p
abbrev pub reply_as : List ℕ → List ℕ → List ℕ → D.Answer → List ℕ
reply_as secret p b (A.Refused r) = b
reply_as secret p b (A.Discarded d) = b
reply_as secret p b (A.Stale skew) = b
reply_as secret p b (A.Nak c skew n) = write b 0 (reply_of secret p (Some c))
reply_as secret p b (A.Ack k skew n) = write b 0 (reply_of secret p None)

-- a NAK with its cause; without one it is no refusal, and the reply is that of an ACK of no session
abbrev pub nak_as : Option C.Cause → ℤ → ℕ → D.Answer
nak_as (Some c) skew n = A.Nak c skew n
nak_as None skew n = A.Ack 0 skew n
