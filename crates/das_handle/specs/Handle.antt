-- A whole request: refusals R1 to R4, discards D1 to D6, causes 1 to 7, else ACK (document 01; demand 2).
-- Assumes nothing.
use Rattle.std.specs.Prelude.{List, ℕ, ℤ, Option, Some, None, Result, Ok, Err}
use Rattle.refusals.specs.declared.Refusal.{Refusal}
use Rattle.rule_verdict.specs.declared.Verdict as R
use Rattle.packet_form.specs.Packet.{code_of, area_of}
use Rattle.nas_settings.specs.Settings.{Settings}
use Rattle.rule_verdict.specs.Discards.{signed_by}
use Rattle.rule_verdict.specs.Verdict.{verdict_of}
use Rattle.das_effects.specs.Matching.{match_count}
use Rattle.das_effects.specs.Changes.{change_matching}
use Rattle.das_answer.specs.declared.Answer as D
use Rattle.das_answer.specs.declared.Answer.TheVariants as A
use Rattle.das_answer.specs.Commit.{count_answer}
use Rattle.das_answer.specs.Replies.{reply_as}
use Rattle.das_judge.specs.Judged.{judged_as}
use Rattle.das_handle.specs.Refusals.{refusal_of}

-- the answer to the request p: where causes 1 to 6 passed, the live sessions that match decide
abbrev pub answer_as : List ℕ → List ℕ → Result ℤ D.Answer → D.Answer
answer_as p t (Err a) = a
answer_as p t (Ok skew) = count_answer p (match_count (area_of p) t) skew

-- that of a verdict
abbrev pub answer_of : List ℕ → List ℕ → R.Verdict → D.Answer
answer_of p t v = answer_as p t (judged_as p v)

-- a refusal comes before the answer a
abbrev pub unless_refused : Option Refusal → D.Answer → D.Answer
unless_refused (Some r) a = A.Refused r
unless_refused None a = a

-- a refusal returns its number alone, before any judgement of the packet
unfoldable pub handle_answer : Settings → List ℕ → List ℕ → List ℕ → ℕ → D.Answer
handle_answer g t b p clock = unless_refused (refusal_of g t b) (answer_of p t (verdict_of g (signed_by g.secret p) p clock))

-- only an ACK writes the table
abbrev pub table_as : List ℕ → List ℕ → D.Answer → List ℕ
table_as p t (A.Refused r) = t
table_as p t (A.Discarded d) = t
table_as p t (A.Stale skew) = t
table_as p t (A.Nak c skew n) = t
table_as p t (A.Ack k skew n) = change_matching (code_of p) (area_of p) t

unfoldable pub handle_table : Settings → List ℕ → List ℕ → List ℕ → ℕ → List ℕ
handle_table g t b p clock = table_as p t (handle_answer g t b p clock)

-- only a NAK or an ACK writes the reply
unfoldable pub handle_reply : Settings → List ℕ → List ℕ → List ℕ → ℕ → List ℕ
handle_reply g t b p clock = reply_as g.secret p b (handle_answer g t b p clock)
