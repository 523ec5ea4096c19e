-- `das_handle::passed::matched` meets its contract: the marks of the walk are the matching sessions.
use borrow.Author.Rules.{rules}
use Rattle.das_handle.proofs.Matched.{commits_fits, commits_short, matched_answer, matched_table, matched_reply}
use Rattle.das_handle.proofs.passed.matched.Goals as goal

pub commit-requires-clause-fits : goal.commit-requires-clause-fits
commit-requires-clause-fits c = search (rules, commits_fits)

pub commit-requires-clause-short : goal.commit-requires-clause-short
commit-requires-clause-short c = (search (rules, commits_short), search (rules, commits_short))

pub returns-clause-value : goal.returns-clause-value
returns-clause-value c = matched_answer _ _ _ _ _ _ c.args.request.now.survey.kept c.requires.committable.once c.args.request.now.area_is c.criteria-criteria.ensures c.mark_all-marks.ensures _ _ _ c.commit.ensures.value (search rules)

pub returns-clause-t_after : goal.returns-clause-t_after
returns-clause-t_after c = matched_table _ _ _ _ _ _ c.args.request.now.survey.kept c.requires.committable.once c.args.request.now.area_is c.criteria-criteria.ensures c.mark_all-marks.ensures _ _ _ c.commit.ensures.value c.commit.ensures.t_after

pub returns-clause-reply_after : goal.returns-clause-reply_after
returns-clause-reply_after c = search (rules, matched_reply)
