-- `sched_step::step` meets its contract: a refusal, or one step of the job with the bytes of secret and name that count.
use borrow.Author.Rules.{rules}
use mathlib.Core.Path.{refl}
use Rattle.nas_settings.specs.Settings.{gate_settings}
use Rattle.sched_step.proofs.Refusing.{goes_below, goes_room, goes_long}
use Rattle.sched_step.proofs.Bounds.{rows_small}
use Rattle.sched_step.proofs.Steps.{refused_told, refused_left, refused_table, refused_reply, goes_told, goes_left, goes_table, goes_reply}
use Rattle.sched_step.proofs.step.Goals as goal

pub returns-in-Some-clause-value : goal.returns-in-Some-clause-value
returns-in-Some-clause-value c = refused_told _ _ _ _ _ _ _ _ _ c.args.j c.args.t.now c.args.reply.now c.args.store.now _ _ c.gate-gate.ensures.size.0 c.in-Some.ensures _ _ _ c.from.ensures (search rules)

pub returns-in-Some-clause-rows_after : goal.returns-in-Some-clause-rows_after
returns-in-Some-clause-rows_after c = refused_left _ _ _ _ _ _ _ _ _ c.args.j c.args.t.now c.args.reply.now c.args.store.now _ _ c.gate-gate.ensures.size.0 c.in-Some.ensures _ _ _ _ refl refl refl refl

pub returns-in-Some-clause-t_after : goal.returns-in-Some-clause-t_after
returns-in-Some-clause-t_after c = refused_table _ _ _ _ _ _ _ _ _ c.args.j c.args.t.now c.args.reply.now c.args.store.now _ _ c.gate-gate.ensures.size.0 c.in-Some.ensures

pub returns-in-Some-clause-reply_after : goal.returns-in-Some-clause-reply_after
returns-in-Some-clause-reply_after c = refused_reply _ _ _ _ _ _ _ _ _ c.args.j c.args.t.now c.args.reply.now c.args.store.now _ _ c.gate-gate.ensures.size.0 c.in-Some.ensures

pub stepped-ending-requires : goal.stepped-ending-requires
stepped-ending-requires c = (c.gate-gate.ensures.size.1, goes_below _ c.args.j c.args.t.now c.args.reply.now c.args.store.now c.in-None.ensures, goes_room _ c.args.j c.args.t.now c.args.reply.now c.args.store.now c.in-None.ensures, goes_long _ c.args.j c.args.t.now c.args.reply.now c.args.store.now c.in-None.ensures)

pub tell-requires : goal.tell-requires
tell-requires c = rows_small (gate_settings c.gate-gate.result) _ _ _ _ _ _ _ _ c.stepped-ending.ensures.value

pub returns-in-None-clause-value : goal.returns-in-None-clause-value
returns-in-None-clause-value c = goes_told _ _ _ _ _ _ _ _ _ c.args.j c.args.t.now c.args.reply.now c.args.store.now (gate_settings c.gate-gate.result) c.gate-gate.ensures.value c.gate-gate.ensures.size.0 c.in-None.ensures _ _ c.args.old c.stepped-ending.ensures.value (c.tell.ensures c.args.old)

pub returns-in-None-clause-rows_after : goal.returns-in-None-clause-rows_after
returns-in-None-clause-rows_after c =
    let e = c.stepped-ending.ensures in
    goes_left _ _ _ _ _ _ _ _ _ c.args.j c.args.t.now c.args.reply.now c.args.store.now (gate_settings c.gate-gate.result) c.gate-gate.ensures.value c.gate-gate.ensures.size.0 c.in-None.ensures
    _ refl _ _ _ _ e.words_after e.kinds_after e.places_after e.marks_after

pub returns-in-None-clause-t_after : goal.returns-in-None-clause-t_after
returns-in-None-clause-t_after c = goes_table _ _ _ _ _ _ _ _ _ c.args.j c.args.t.now c.args.reply.now c.args.store.now (gate_settings c.gate-gate.result) c.gate-gate.ensures.value c.gate-gate.ensures.size.0 c.in-None.ensures _ c.stepped-ending.ensures.t_after

pub returns-in-None-clause-reply_after : goal.returns-in-None-clause-reply_after
returns-in-None-clause-reply_after c = goes_reply _ _ _ _ _ _ _ _ _ c.args.j c.args.t.now c.args.reply.now c.args.store.now (gate_settings c.gate-gate.result) c.gate-gate.ensures.value c.gate-gate.ensures.size.0 c.in-None.ensures _ refl _ c.stepped-ending.ensures.reply_after
