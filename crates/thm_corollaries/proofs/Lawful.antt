-- What document 01 says of the scheduler beside demand 3: the laws of single calls are proved in the crate of demand 3, and a step of a list never
-- discards as D1, since there it discards as D4 to D6 alone.
-- Assumes nothing.
use mathlib.Core.Bool.{false≢true}
use Rattle.refusals.specs.declared.Discard.TheVariants as R
use Rattle.thm_serial.proofs.Lone as L
use Rattle.thm_serial.proofs.StepWrites as W
use Rattle.thm_serial.proofs.CopiedBytes as C
use Rattle.thm_serial.proofs.Others as O
use Rattle.thm_serial.proofs.Restarts as S
use Rattle.thm_corollaries.specs.Laws.{Laws}
use Rattle.thm_corollaries.proofs.LateDiscards.{discards_late}

pub laws : Laws
laws =
    record {
      lone = L.lone;
      only_ack = W.only_ack;
      only_commit = W.only_commit;
      only_replies = W.only_replies;
      step_store = W.step_store;
      open_before = C.open_before;
      open_after = C.open_after;
      step_others = O.step_others;
      ack_restarts = S.ack_restarts;
      start_restarts = S.start_restarts;
      end_restarts = S.end_restarts;
      done_frees = S.done_frees;
      drop_others = O.drop_others;
      drop_made = O.drop_made;
      drop_table = O.drop_table;
      drop_store = O.drop_store;
      never_reread = λ s new cs t store j b e. false≢true (discards_late s new cs t store j b R.Length e);
    }
