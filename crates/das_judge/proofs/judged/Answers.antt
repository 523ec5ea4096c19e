-- `das_judge::judged` meets its contract: each arm is its part of the definition.
use borrow.Author.Rules.{rules}
use Rattle.das_judge.proofs.Verdicts.{arm_discarded, arm_stale, arm_nak, arm_passed, nak_reply, nak_fits}
use Rattle.das_judge.proofs.judged.Goals as goal

pub nak-requires : goal.nak-requires
nak-requires c = (search (rules, nak_fits), search rules)

pub returns-in-Discarded-clause-value : goal.returns-in-Discarded-clause-value
returns-in-Discarded-clause-value c = search (rules, arm_discarded)

pub returns-in-Stale-clause-value : goal.returns-in-Stale-clause-value
returns-in-Stale-clause-value c = search (rules, arm_stale)

pub returns-in-Nak-clause-value : goal.returns-in-Nak-clause-value
returns-in-Nak-clause-value c = search (rules, arm_nak)

pub returns-in-Nak-clause-reply_after : goal.returns-in-Nak-clause-reply_after
returns-in-Nak-clause-reply_after c = search (rules, nak_reply)

pub returns-in-Passed-clause-value : goal.returns-in-Passed-clause-value
returns-in-Passed-clause-value c = search (rules, arm_passed)
