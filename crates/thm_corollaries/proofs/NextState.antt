-- What a call's contract says of its result is the next state of a list's run: a run is defined call by call, with the very definitions that the
-- contracts name.
-- Assumes nothing.
use mathlib.Core.List.{List}
use Rattle.sched_state.specs.Runs.{Call, World, call, run}
use Rattle.thm_corollaries.specs.Corollaries.{Chained}

pub chained : (w : World) (cs : List Call) → Chained w cs
unfolding call run
chained w cs =
    record {
      opening = λ p clock x store e i. rw (e, i);
      stepping = λ j before x t b e i h. rw (e, i, h);
      dropping = λ j x e. rw e;
      starting = λ n x t e i. rw (e, i);
      ending = λ k x t e i. rw (e, i);
    }
