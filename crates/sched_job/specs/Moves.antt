-- The moves of a job (document 01, "The desk": Hash, Check, Match, Commit). g is what the scheduler was made with, q the job's part of the store, t the table.
-- Assumes nothing.
use Rattle.std.specs.Prelude.{cond, List, ℕ, ◌+◌, ltb, ℤ, pos, length, set, Option, Some, None, Result, Ok, Err}
use Rattle.refusals.specs.declared.Discard.TheVariants as R
use Rattle.packet_blocks.specs.Block.{block_count, hashed}
use Rattle.table_slots.specs.Slot.{slot_count}
use Rattle.rule_stamp.specs.Stamp.{stamp_of, skew_of}
use Rattle.packet_form.specs.Packet.{area_of}
use Rattle.nas_settings.specs.Settings.{Settings}
use Rattle.das_effects.specs.Matching.{matches_in}
use Rattle.das_answer.specs.declared.Answer as D
use Rattle.das_answer.specs.declared.Answer.TheVariants as A
use Rattle.das_answer.specs.Replies.{reply_as}
use Rattle.das_answer.specs.Commit.{commit_answer, commit_table}
use Rattle.sched_reread.specs.Check.{store_judged}
use Rattle.sched_job.specs.declared.Job as B
use Rattle.sched_job.specs.declared.Stage as S
use Rattle.sched_job.specs.declared.Stage.TheVariants.{Free, Hash, Check, Match}
use Rattle.sched_job.specs.declared.Moved as M
use Rattle.packet_words.specs.Words.{words_of, hash_state}
use Rattle.sched_job.specs.Job.{free_job, at_first_slot}
use Rattle.sched_reread.specs.Reread.{holds_passed}

-- it goes on; it is finished, and free again
abbrev pub going : B.Job → M.Moved
going j = record { job = j; ending = None }

abbrev pub done : D.Answer → M.Moved
done a = record { job = free_job; ending = Some a }

-- Hash: block k, from the words as held, the kept Length and the store as it stands; after the last block comes Check
unfoldable pub hash_job : List ℕ → B.Job → ℕ → List ℕ → B.Job
hash_job secret j k q =
    record {
      stage = cond (ltb (k + 1) (block_count (j.length + length secret))) (Hash (k + 1)) Check;
      words = words_of (hashed (hash_state j.words) k q j.length secret);
      marks = j.marks;
      length = j.length;
      clock = j.clock;
    }

-- what Check comes to: an answer ends the job, what passed goes on to slot 0
abbrev pub checked_as : B.Job → Result ℤ D.Answer → M.Moved
checked_as j (Err a) = done a
checked_as j (Ok skew) = going (at_first_slot j)

-- Check by the words, Length and clock as kept
unfoldable pub check_move : Settings → B.Job → List ℕ → M.Moved
check_move g j q = checked_as j (store_judged g j.words j.length j.clock q)

-- Match: slot k
unfoldable pub match_job : B.Job → ℕ → List ℕ → List ℕ → B.Job
match_job j k q t =
    record { stage = Match (k + 1); words = j.words; marks = cond (matches_in (area_of q) t k) (set j.marks k 1) j.marks; length = j.length; clock = j.clock }

-- the skew at Commit: the stamp in the store then, minus the kept clock
abbrev pub skew_at : Option ℕ → ℕ → ℤ
skew_at (Some v) clock = skew_of v clock
skew_at None clock = pos 0  -- does not come: the re-reading asks for type 55

-- Commit, by the marks as held: 503, or changes and ACK
unfoldable pub commit_move : B.Job → List ℕ → List ℕ → M.Moved
commit_move j q t = done (commit_answer q j.marks t (skew_at (stamp_of (area_of q)) j.clock))

-- a job's place is the next slot to examine; where it is not below the table's number of slots, the job awaits Commit
unfoldable pub slot_move : Settings → B.Job → ℕ → List ℕ → List ℕ → M.Moved
slot_move g j k q t =
    cond (holds_passed g j.length q)
    (cond (ltb k (slot_count t)) (going (match_job j k q t)) (commit_move j q t))
    (done (A.Discarded R.Length))

unfoldable pub slot_table : Settings → B.Job → ℕ → List ℕ → List ℕ → List ℕ
slot_table g j k q t = cond (holds_passed g j.length q) (cond (ltb k (slot_count t)) t (commit_table q j.marks t)) t

-- one step of a job, and the table after it; of a free job nothing
abbrev pub moved_at : Settings → S.Stage → B.Job → List ℕ → List ℕ → M.Moved
moved_at g Free j q t = going j  -- does not come: R7
moved_at g (Hash k) j q t = going (hash_job g.secret j k q)
moved_at g Check j q t = check_move g j q
moved_at g (Match k) j q t = slot_move g j k q t

unfoldable pub moved : Settings → B.Job → List ℕ → List ℕ → M.Moved
moved g j q t = moved_at g j.stage j q t

abbrev pub moved_table_at : Settings → S.Stage → B.Job → List ℕ → List ℕ → List ℕ
moved_table_at g Free j q t = t
moved_table_at g (Hash k) j q t = t
moved_table_at g Check j q t = t
moved_table_at g (Match k) j q t = slot_table g j k q t

unfoldable pub moved_table : Settings → B.Job → List ℕ → List ℕ → List ℕ
moved_table g j q t = moved_table_at g j.stage j q t

-- the reply buffer after a move: only a step that finishes in ACK or NAK writes it
abbrev pub reply_after : List ℕ → List ℕ → List ℕ → Option D.Answer → List ℕ
reply_after secret q b None = b
reply_after secret q b (Some a) = reply_as secret q b a
