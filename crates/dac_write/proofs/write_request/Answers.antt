-- `dac_write::write_request` meets its contract: what is not refused has a code of one byte, good attributes and room.
use Rattle.std.proofs.Common.{rules}
use Rattle.dac_write.proofs.Refusals.{taken, code_byte}
use Rattle.dac_write.proofs.write_request.Goals as goal

pub overflow_cast-code : goal.overflow_cast-code
overflow_cast-code c = let h = code_byte _ _ _ (c.in_ok-refusal.ensures c.args.identifier) in search (rules, h)

pub put_request-requires : goal.put_request-requires
put_request-requires c = let t = taken _ _ _ (c.in_ok-refusal.ensures c.args.identifier) in (t.given, t.room)
