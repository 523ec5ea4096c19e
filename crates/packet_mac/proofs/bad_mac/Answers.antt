-- `packet_mac::bad_mac` meets its contract: by how many there are, then by length, then by the value where it lies.
use borrow.Author.Rules.{rules}
use Rattle.packet_mac.proofs.Judged.{mac_none, mac_more, mac_size, mac_low, mac_high, mac_value}
use Rattle.packet_mac.proofs.bad_mac.Goals as goal

pub returns-then-first-eq0 : goal.returns-then-first-eq0
returns-then-first-eq0 c = search (rules, mac_none)

pub returns-then-first-ne1 : goal.returns-then-first-ne1
returns-then-first-ne1 c = search (rules, mac_more)

pub returns-then-first-ne18 : goal.returns-then-first-ne18
returns-then-first-ne18 c = search (rules, mac_size)

pub mac_right-requires : goal.mac_right-requires
mac_right-requires c = (search (rules, mac_low), search (rules, mac_high), search rules)

pub returns : goal.returns
returns c = search (rules, mac_value)
