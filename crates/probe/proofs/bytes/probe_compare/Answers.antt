-- `probe::bytes::probe_compare` meets its contract: it says what the comparison says.
use mathlib.Core.Path.{ap}
use Rattle.octet_runs.specs.declared.Compared.{Compared}
use Rattle.probe_laws.proofs.Answers.{says_same, says_other}
use Rattle.probe.proofs.bytes.probe_compare.Goals as goal

pub returns-then-c-clause-value : goal.returns-then-c-clause-value
returns-then-c-clause-value c = let is = c.compare-c.ensures in says_same _ _ (ap (λ (x : Compared). x.same) is) c.if-c.true

pub returns-then-c-clause-pairs_after : goal.returns-then-c-clause-pairs_after
returns-then-c-clause-pairs_after c = let is = c.compare-c.ensures in ap (λ (x : Compared). x.pairs) is

pub returns-clause-value : goal.returns-clause-value
returns-clause-value c = let is = c.compare-c.ensures in says_other _ _ (ap (λ (x : Compared). x.same) is) c.if-c.false

pub returns-clause-pairs_after : goal.returns-clause-pairs_after
returns-clause-pairs_after c = let is = c.compare-c.ensures in ap (λ (x : Compared). x.pairs) is
