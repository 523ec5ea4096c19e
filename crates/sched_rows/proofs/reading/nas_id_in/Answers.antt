-- `sched_rows::reading::nas_id_in` meets its contract: what is clamped is brought inside, and what is brought inside is inside.
use native.Mathlib.Omega.{arith}
use Rattle.sched_rows.proofs.Ranges.{clamped}
use Rattle.sched_rows.proofs.ReadOurs.{within}
use Rattle.sched_rows.proofs.reading.nas_id_in.Goals as goal

pub returns : goal.returns
returns c = let r = clamped _ _ _ c.clamp.result c.clamp.ensures (omega arith) in (r, within _ _ _ _ r (omega arith))
