-- `packet_form::bad_length` meets its contract, by its four tests.
use borrow.Author.Rules.{rules}
use Rattle.packet_form.proofs.Forms.{length_short, length_low, length_high, length_cut}
use Rattle.packet_form.proofs.bad_length.Goals as goal

pub returns-then-p-lt20 : goal.returns-then-p-lt20
returns-then-p-lt20 c = search (rules, length_short)

pub returns-then-n-lt20 : goal.returns-then-n-lt20
returns-then-n-lt20 c = search (rules, length_low)

pub returns-then-n-gt4096 : goal.returns-then-n-gt4096
returns-then-n-gt4096 c = search (rules, length_high)

pub returns : goal.returns
returns c = search (rules, length_cut)
