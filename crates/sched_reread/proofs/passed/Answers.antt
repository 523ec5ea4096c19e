-- `sched_reread::passed` meets its contract: D1 to D3 and Length, the stamp, type 80 and the causes.
use borrow.Author.Rules.{rules}
use Rattle.nas_settings.specs.Settings.{gate_settings}
use Rattle.sched_reread.proofs.Retold.{gone_form, gone_stamp, gone_objected, shown, stands}
use Rattle.sched_reread.proofs.passed.Goals as goal

pub returns-in_err-packet : goal.returns-in_err-packet
returns-in_err-packet c = search (rules, gone_form)

pub returns-in_err-stamp : goal.returns-in_err-stamp
returns-in_err-stamp c = search (rules, gone_stamp)

pub invariant_of-result : goal.invariant_of-result
invariant_of-result c =
    record { stands = stands (gate_settings c.args.gate.now) c.args.n c.args.q.now (search rules) _ _ (search rules) c.of-request.result.area_is _ c.stamp_of.ensures _ (search rules) _ (search rules) _ c.unobjected.ensures c.if-unobjected.true }

pub returns-then-unobjected : goal.returns-then-unobjected
returns-then-unobjected c = search (rules, shown)

pub returns : goal.returns
returns c = search (rules, gone_objected)
