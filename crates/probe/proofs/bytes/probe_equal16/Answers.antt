-- `probe::bytes::probe_equal16` meets its contract: 16 bytes are the whole of each run.
use borrow.Author.Rules.{rules}
use Rattle.probe_laws.proofs.Answers.{first_room, second_room, both_rooms, whole_runs, says_same, says_other}
use Rattle.probe.proofs.bytes.probe_equal16.Goals as goal

pub returns-then-a-ne16 : goal.returns-then-a-ne16
returns-then-a-ne16 c = search (rules, first_room)

pub returns-then-b-ne16 : goal.returns-then-b-ne16
returns-then-b-ne16 c = search (rules, second_room)

pub returns-then-equal16 : goal.returns-then-equal16
returns-then-equal16 c = search (rules, both_rooms, says_same, whole_runs)

pub returns : goal.returns
returns c = search (rules, both_rooms, says_other, whole_runs)
