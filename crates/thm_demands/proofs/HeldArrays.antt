-- Demand 1 of the arrays that C holds of a scheduler: a refusal, and a discard at opening, leave every array as it was, by the cases for these two
-- in the definition of what a call leaves.
-- Assumes nothing.
use mathlib.Core.List.{List}
use mathlib.Core.Path.{◌≡◌}
use Prim.Native.Nat.{ℕ}
use Rattle.std.specs.Prelude.{Some}
use Rattle.refusals.specs.declared.Refusal.{Refusal}
use Rattle.refusals.specs.declared.Discard.{Discard}
use Rattle.nas_settings.specs.Settings.{Settings}
use Rattle.sched_job.specs.declared.Job as B
use Rattle.sched_state.specs.declared.Outcome as O
use Rattle.sched_state.specs.declared.Outcome.TheVariants.{Refused, Discarded}
use Rattle.sched_state.specs.Refusals.{make_refusal}
use Rattle.sched_rows.specs.Layout.{Held}
use Rattle.sched_rows.specs.Left.{left_by, make_left}
use Rattle.thm_demands.specs.Demand1.{Holding}

refused_kept : (o : O.Outcome) (j : ℕ) (b : B.Job) (h : Held) (n : Refusal) → o ≡ Refused n → left_by o j b h ≡ h
unfolding left_by
refused_kept o j b h n e = rw e

discarded_kept : (o : O.Outcome) (j : ℕ) (b : B.Job) (h : Held) (d : Discard) → o ≡ Discarded d → left_by o j b h ≡ h
unfolding left_by
discarded_kept o j b h d e = rw e

make_kept : (g : Settings) (h : Held) (n : Refusal) → make_refusal g ≡ Some n → make_left g h ≡ h
unfolding make_left
make_kept g h n e = rw e

pub holding : (h : Held) (t b store : List ℕ) → Holding h t b store
holding h t b store =
    record {
      make_kept = λ g n e. make_kept g h _ e;
      open_kept = λ p clock n e. refused_kept _ _ _ h _ e;
      open_discarded_kept = λ p clock d e. discarded_kept _ _ _ h _ e;
      step_kept = λ j n e. refused_kept _ _ _ h _ e;
      drop_kept = λ j n e. refused_kept _ _ _ h _ e;
      start_kept = λ x n e. refused_kept _ _ _ h _ e;
      end_kept = λ k n e. refused_kept _ _ _ h _ e;
    }
