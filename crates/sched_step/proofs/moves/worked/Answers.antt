-- `sched_step::moves::worked` meets its contract: the job read is one of ours, so it can be moved.
use borrow.Author.Rules.{rules}
use Rattle.nas_settings.specs.Settings.{gate_settings}
use Rattle.sched_step.proofs.Moving.{job_fits, read_moved, read_table}
use Rattle.sched_step.proofs.moves.worked.Goals as goal

pub step-requires : goal.step-requires
step-requires c = (job_fits (gate_settings c.args.gate.now) _ _ _ _ _ _ c.job-job.ensures, search rules, search rules, search rules)

pub returns-clause-value : goal.returns-clause-value
returns-clause-value c = search (rules, read_moved)

pub returns-clause-t_after : goal.returns-clause-t_after
returns-clause-t_after c = search (rules, read_table)
