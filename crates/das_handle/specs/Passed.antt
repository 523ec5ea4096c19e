-- What the commit of a request that passed may count on.
-- For inner contracts and proofs: the whole request is said in das_handle/specs/Handle.antt.
-- Assumes nothing.
use Rattle.std.specs.Prelude.{false, List, ◌≡◌, ℕ, ◌≤◌, Option}
use Rattle.attr_walk.specs.Attributes.{attributes, any, found}
use Rattle.attr_types.specs.Types.{misfitting, first_repeated, none}
use Rattle.rule_causes.specs.declared.cause.Cause.{Cause}
use Rattle.packet_form.specs.Packet.{area_of}
use Rattle.das_reply_parts.specs.Reply.{reply_length}

-- lengths fit, no type but 33 stands twice, and every reply fits
pub record Committable (p : List ℕ) : Type 0 where
  pub fits : any misfitting (attributes (area_of p)) ≡ false
  pub once : found (first_repeated none (attributes (area_of p))) ≡ false
  pub short : (c : Option Cause) → reply_length p c ≤ 4096
