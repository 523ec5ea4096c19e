-- `probe::probe_hmac` meets its contract: refused where there is no room, else the digest stands in the whole of it.
use borrow.Author.Rules.{rules}
use Rattle.md5_hmac.proofs.Runs.{length-hmac}
use Rattle.probe_laws.proofs.Answers.{refused, keeps, done, writes, room_no, room_yes, copied}
use Rattle.probe.proofs.probe_hmac.Goals as goal

pub returns-then-out-ne16-clause-value : goal.returns-then-out-ne16-clause-value
returns-then-out-ne16-clause-value c = search (rules, refused, room_no)

pub returns-then-out-ne16-clause-out_after : goal.returns-then-out-ne16-clause-out_after
returns-then-out-ne16-clause-out_after c = search (rules, keeps, room_no)

pub returns-clause-value : goal.returns-clause-value
returns-clause-value c = search (rules, done, room_yes)

pub returns-clause-out_after : goal.returns-clause-out_after
returns-clause-out_after c = search (rules, writes, room_yes, copied, length-hmac)
