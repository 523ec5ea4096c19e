-- `probe_packets::by_blocks` meets its contract: after k turns the words are those after k blocks.
use borrow.Author.Rules.{rules}
use Rattle.probe_packets.proofs.Blocks.{words_more, words_all}
use Rattle.probe_packets.proofs.by_blocks.Goals as goal

pub loop-k-preserved : goal.loop-k-preserved
loop-k-preserved c = search (rules, words_more)

pub returns : goal.returns
returns c = search (rules, words_all)
