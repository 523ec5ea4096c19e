-- `dac_write::writing::put_request` meets its contract: each call leaves one part more of the definition's request, and the last its signatures.
use borrow.Author.Rules.{rules}
use Rattle.dac_write.proofs.Requesting.{places, copy_fits, room_fits, end_low, end_high, end_is, requested}
use Rattle.dac_write.proofs.writing.put_request.Goals as goal

pub copy-requires : goal.copy-requires
copy-requires c = search (rules, copy_fits)

pub put_room-e-requires : goal.put_room-e-requires
put_room-e-requires c = search (rules, places, room_fits)

pub put_front-requires : goal.put_front-requires
put_front-requires c = (search rules, search (rules, places, end_high))

pub put_seals-requires : goal.put_seals-requires
put_seals-requires c = let high = end_high _ _ _ _ c.requires.0 _ _ c.put_room-e.ensures.value (search (rules, places)) in (search (rules, places, end_low), search (rules, high))

pub returns-clause-out_after : goal.returns-clause-out_after
returns-clause-out_after c = requested _ _ _ _ c.requires.0 _ c.put_room-e.ensures.value _ _ _ _ _ _ c.requires.1 c.copy.ensures c.put_room-e.ensures.t_after c.put_front.ensures c.put_seals.ensures

pub returns-clause-value : goal.returns-clause-value
returns-clause-value c = search (rules, end_is)
