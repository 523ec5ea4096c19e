-- The corollaries: a step that finishes a request gives what handling it whole gives. Of that, demand 2 says that the reply passes, and a request
-- from our writer can only be discarded for its stamp.
-- Assumes nothing.
use mathlib.Core.List.{List}
use Prim.Native.Nat.{ℕ}
use Rattle.das_answer.specs.declared.Answer.TheVariants as A
use Rattle.dac_write.specs.Writer.{request_of}
use Rattle.sched_state.specs.declared.Scheduler as D
use Rattle.sched_state.specs.Scheduler.{settings_of}
use Rattle.sched_state.specs.Runs.{Call, World, run}
use Rattle.thm_serial.specs.Demand3.{world, serially, New}
use Rattle.thm_corollaries.specs.Corollaries.{After, Corollaries}
use Rattle.thm_corollaries.proofs.NextState.{chained}
use Rattle.thm_corollaries.proofs.FinishedSteps.{step_handles}
use Rattle.thm_corollaries.proofs.HandledReplies.{answer_passes}
use Rattle.thm_corollaries.proofs.WriterRequests.{opens, sixth}

module _ (s : D.Scheduler) (new : New s) (cs : List Call) (t store : List ℕ) where
  abbrev left : World
  left = (run cs (world s t store)).world

  after : After (settings_of s).secret left (serially cs s t store).serial.notes
  after =
      record {
        replies_pass = λ j clock b p a note e h.
            let q = step_handles b p clock s new cs t store j note a e in
            rw q.1 (answer_passes (settings_of s) left.table b p clock a q.0 h);
        written_opens = λ out d r clock why e. opens (settings_of s).secret out d r left clock why e;
        written_steps = λ out d r j clock b why note e.
            let q = step_handles b (request_of (settings_of s).secret d) clock s new cs t store j note (A.Discarded why) e in
            sixth (settings_of s) out d r left.table b clock why q.0;
      }

pub corollaries : Corollaries
corollaries = record { after = after; chained = chained }
