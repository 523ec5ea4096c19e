-- `sched_make::make` meets its contract: without R2 and R3 secret and name fit.
use borrow.Author.Rules.{rules}
use Rattle.sched_make.proofs.Making.{not_refused, made_left, secret_room, name_room}
use Rattle.sched_make.proofs.make.Goals as goal

pub keep-requires : goal.keep-requires
keep-requires c = search (rules, secret_room)

pub keep-requires-2 : goal.keep-requires-2
keep-requires-2 c = search (rules, name_room)

pub returns-clause-label_after : goal.returns-clause-label_after
returns-clause-label_after c =
    let free = c.free_all.ensures in
    let none = not_refused _ _ _ _ _ c.bad_secret.ensures c.if-bad_secret.false c.bad_nas_id.ensures c.if-bad_nas_id.false in
    made_left _ _ _ none _ _ _ _ _ _ _ _ _ free.words_after free.kinds_after free.places_after free.marks_after
    c.keep.ensures (search rules) c.keep-2.ensures (search rules)
