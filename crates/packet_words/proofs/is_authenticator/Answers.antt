-- `packet_words::is_authenticator` meets its contract: the comparison takes all of the digest.
use borrow.Author.Rules.{rules}
use Rattle.packet_words.proofs.Held.{words_signed_lem}
use Rattle.packet_words.proofs.is_authenticator.Goals as goal

pub returns : goal.returns
returns c = search (rules, words_signed_lem)
