-- One step of an open job keeps its invariant, or ends with what handling its request whole gives: at each stage by the law of that stage's move.
-- Assumes nothing.
use mathlib.Core.Path.{◌≡◌}
use mathlib.Core.List.{List}
use Prim.Native.Nat.{ℕ}
use Rattle.std.specs.Prelude.{None}
use Rattle.nas_settings.specs.Settings.{Settings}
use Rattle.das_handle.specs.Refusals.{refusal_of}
use Rattle.sched_job.specs.declared.Job as B
use Rattle.sched_job.specs.declared.Stage as S
use Rattle.sched_job.specs.declared.Stage.TheVariants.{Free, Hash, Check, Match}
use Rattle.sched_job.specs.Moves.{moved_at, moved_table_at, moved, moved_table}
use Rattle.thm_serial.proofs.JobInvariant.{Place, Holding, Right}
use Rattle.thm_serial.proofs.HashCheck.{hash_right, check_right}
use Rattle.thm_serial.proofs.MatchCommit.{slot_right}

module _ (g : Settings) (p : List ℕ) (clock : ℕ) (q t b : List ℕ) (open-to : refusal_of g t b ≡ None) (j : B.Job) (h : Holding g j p clock q t) where
  by_stage : (x : S.Stage) → Place g x j.words j.marks p clock t → Right g p clock q t b (moved_at g x j q t) (moved_table_at g x j q t)
  by_stage Free i = absurd i
  by_stage (Hash k) i = hash_right g p clock q t b open-to h.good h.same k j h.long h.clock_is i.0 i.1
  by_stage Check i = check_right g p clock q t b open-to h.good h.same j h.long h.clock_is i
  by_stage (Match k) i = slot_right g p clock q t b open-to h.good h.same i.0 k j h.long h.clock_is i.1 i.2

  pub move_right : Right g p clock q t b (moved g j q t) (moved_table g j q t)
  unfolding moved moved_table
  move_right = by_stage j.stage h.place
