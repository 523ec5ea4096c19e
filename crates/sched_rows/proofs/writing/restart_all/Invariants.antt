-- `sched_rows::writing::restart_all`: the jobs below j are back at slot 0.
use Rattle.std.proofs.Common.{◌≡◌}
use Rattle.sched_rows.proofs.RestartLoop.{places_to, marks_to}
use Rattle.sched_rows.proofs.writing.restart_all.Given as goal

abbrev pub invariant-loop-j : goal.invariant-loop-j
invariant-loop-j l = (l.places ≡ places_to l.kinds l.initial.places l.j) × (l.marks ≡ marks_to l.kinds l.initial.marks l.j)
