-- `table_criteria::first::sieve_for` meets its contract: a field before place 18 is a number, any other a text with its length before it.
use Rattle.table_criteria.proofs.Sieves.{number_passes, text_passes}
use borrow.Author.Rules.{rules}
use Rattle.table_criteria.proofs.first.sieve_for.Goals as goal

pub returns-then-i-lt18 : goal.returns-then-i-lt18
returns-then-i-lt18 c = λ s whole l m. search (rules, number_passes)

pub returns : goal.returns
returns c = λ s whole l m. search (rules, text_passes)
