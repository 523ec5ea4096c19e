-- `sched_open::open` meets its contract: R5 and R6, D1 to D3, or a job.
use mathlib.Core.Path.{refl}
use borrow.Author.Rules.{rules}
use Rattle.sched_open.proofs.Admitting.{refused_number, refused_left, refused_store, refused_place}
use Rattle.sched_open.proofs.Admitting.{discarded_number, discarded_left, discarded_store, discarded_place}
use Rattle.sched_open.proofs.Admitting.{opened_number, opened_left, opened_store, opened-place}
use Rattle.sched_open.proofs.open.Goals as goal

pub returns-in-Err-clause-value : goal.returns-in-Err-clause-value
returns-in-Err-clause-value c = refused_number _ _ _ _ _ _ _ _ _ c.args.p.now c.args.clock c.args.store.now _ c.secret_in-z.ensures.0 _ c.in-Err.ensures _ c.from.ensures

pub returns-in-Err-clause-rows_after : goal.returns-in-Err-clause-rows_after
returns-in-Err-clause-rows_after c = search (rules, refused_left)

pub returns-in-Err-clause-store_after : goal.returns-in-Err-clause-store_after
returns-in-Err-clause-store_after c = search (rules, refused_store)

pub returns-in-Err-clause-job_after : goal.returns-in-Err-clause-job_after
returns-in-Err-clause-job_after c = search (rules, refused_place)

pub returns-in-Ok-form-clause-value : goal.returns-in-Ok-form-clause-value
returns-in-Ok-form-clause-value c = search (rules, opened_number)

pub returns-in-Ok-form-clause-rows_after : goal.returns-in-Ok-form-clause-rows_after
returns-in-Ok-form-clause-rows_after c =
    let a = c.admit.ensures in
    opened_left _ _ _ _ _ _ _ _ _ c.args.p.now c.args.clock c.args.store.now _ c.secret_in-z.ensures.0 _ c.in-Ok.ensures c.in-Ok-form.ensures.0 _ c.in-Ok-form.ensures.1 _ _ _ _ a.words_after a.kinds_after a.places_after a.marks_after

pub returns-in-Ok-form-clause-store_after : goal.returns-in-Ok-form-clause-store_after
returns-in-Ok-form-clause-store_after c =
    opened_store _ _ _ _ _ _ _ _ _ c.args.p.now c.args.clock c.args.store.now _ c.secret_in-z.ensures.0 _ c.in-Ok.ensures c.in-Ok-form.ensures.0 _ c.in-Ok-form.ensures.1 _ c.admit.ensures.store_after

pub returns-in-Ok-form-clause-job_after : goal.returns-in-Ok-form-clause-job_after
returns-in-Ok-form-clause-job_after c =
    opened-place _ _ _ _ _ _ _ _ _ c.args.p.now c.args.clock c.args.store.now _ c.secret_in-z.ensures.0 _ c.in-Ok.ensures c.in-Ok-form.ensures.0 _ _ refl

pub returns-in-Err-form-clause-value : goal.returns-in-Err-form-clause-value
returns-in-Err-form-clause-value c =
    discarded_number _ _ _ _ _ _ _ _ _ c.args.p.now c.args.clock c.args.store.now _ c.secret_in-z.ensures.0 _ c.in-Ok.ensures _ c.in-Err-form.ensures _ c.from-in-Err-form.ensures

pub returns-in-Err-form-clause-rows_after : goal.returns-in-Err-form-clause-rows_after
returns-in-Err-form-clause-rows_after c = search (rules, discarded_left)

pub returns-in-Err-form-clause-store_after : goal.returns-in-Err-form-clause-store_after
returns-in-Err-form-clause-store_after c = search (rules, discarded_store)

pub returns-in-Err-form-clause-job_after : goal.returns-in-Err-form-clause-job_after
returns-in-Err-form-clause-job_after c = search (rules, discarded_place)
