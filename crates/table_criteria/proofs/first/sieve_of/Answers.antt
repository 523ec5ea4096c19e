-- `table_criteria::first::sieve_of` meets its contract: a slot that matches is live and meets the first criterion.
use Rattle.table_criteria.proofs.Sieves.{first_matches}
use Rattle.table_criteria.proofs.first.sieve_of.Goals as goal

pub returns : goal.returns
returns c = λ s whole m. let p = first_matches c.args.area.now c.args.c.now c.in_ok-one.one s (cc) m in c.sieve_for.ensures s whole p.0 p.1
