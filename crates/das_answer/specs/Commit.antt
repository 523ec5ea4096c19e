-- The last move of a request that meets no rule before cause 7 (document 01, "Commit: 503, or changes and ACK"), by marks on the slots.
-- Marks on slots that are gone or not live are skipped.
-- Assumes nothing.
use Rattle.std.specs.Prelude.{cond, List, ℕ, eqb, ℤ, Some, None}
use Rattle.table_slots.specs.Slot.{slot_count}
use Rattle.table_change.specs.Change.{change_marked, count_marked}
use Rattle.rule_causes.specs.declared.cause.Cause.TheVariants.{SessionNotFound}
use Rattle.packet_form.specs.Packet.{code_of, area_of}
use Rattle.das_reply_parts.specs.Reply.{reply_length}
use Rattle.das_effects.specs.Changes.{change_of}
use Rattle.das_answer.specs.declared.Answer as D
use Rattle.das_answer.specs.declared.Answer.TheVariants as A

-- cause 7 where no session is left, else ACK with the number of sessions changed
unfoldable pub count_answer : List ℕ → ℕ → ℤ → D.Answer
count_answer p n skew =
    cond (eqb n 0) (A.Nak SessionNotFound skew (reply_length p (Some SessionNotFound)))
    (A.Ack n skew (reply_length p None))

unfoldable pub commit_answer : List ℕ → List ℕ → List ℕ → ℤ → D.Answer
commit_answer p marks t skew = count_answer p (count_marked marks (slot_count t) t) skew

-- every slot that is marked and live, ended or altered
unfoldable pub commit_table : List ℕ → List ℕ → List ℕ → List ℕ
commit_table p marks t = change_marked (area_of p) (change_of (code_of p) (area_of p)) marks (slot_count t) t
