-- `dac_check::authentic` meets its contract: the comparison takes all of the authenticator.
use borrow.Author.Rules.{rules}
use Rattle.packet_auth.proofs.Messages.{length-authenticator}
use Rattle.packet_auth.proofs.Pieces.{compared}
use Rattle.dac_check.proofs.authentic.Goals as goal

pub returns : goal.returns
returns c = search (rules, compared, length-authenticator)
