-- `rule_verdict::Verdict::of` meets its contract: each return is the first of D5, D6 and the causes that applies.
use borrow.Author.Rules.{rules}
use Rattle.rule_verdict.proofs.Verdicts.{check_unsigned, check_mac, check_unusable, check_stale, check_nak, check_passed}
use Rattle.rule_verdict.proofs.Verdict.of.Goals as goal

pub returns-then-not-signed : goal.returns-then-not-signed
returns-then-not-signed c = search (rules, check_unsigned)

pub returns-then-bad_request_mac : goal.returns-then-bad_request_mac
returns-then-bad_request_mac c = search (rules, check_mac)

pub returns-in_default : goal.returns-in_default
returns-in_default c = search (rules, check_unusable)

pub returns-then-stale : goal.returns-then-stale
returns-then-stale c = search (rules, check_stale)

pub returns-in-Some-first_cause : goal.returns-in-Some-first_cause
returns-in-Some-first_cause c = search (rules, check_nak)

pub returns-in-None : goal.returns-in-None
returns-in-None c = search (rules, check_passed)
