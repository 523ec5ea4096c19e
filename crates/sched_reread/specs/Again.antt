-- What Match and Commit count on where the store, read again, still shows the request q; v is its stamp.
-- For inner contracts and proofs: when the store still shows the request is said in sched_reread/specs/Reread.antt.
-- Assumes nothing.
use Rattle.std.specs.Prelude.{◌≡◌, false, List, ℕ, Some}
use Rattle.attr_walk.specs.Attributes.{attributes, any, found}
use Rattle.attr_types.specs.Types.{misfitting, first_repeated, none}
use Rattle.rule_stamp.specs.Stamp.{stamp_of}
use Rattle.packet_form.specs.Packet.{area_of}
use Rattle.sched_reread.specs.Reread.{odd_mac}

pub record Stands (q : List ℕ) (v : ℕ) : Type 0 where
  pub stamp : stamp_of (area_of q) ≡ Some v
  pub plain : any odd_mac (attributes (area_of q)) ≡ false
  pub fits : any misfitting (attributes (area_of q)) ≡ false
  pub once : found (first_repeated none (attributes (area_of q))) ≡ false
