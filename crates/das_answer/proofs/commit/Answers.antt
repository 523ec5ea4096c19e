-- `das_answer::commit` meets its contract: the sessions are changed first, and their number decides the answer.
use borrow.Author.Rules.{rules}
use Rattle.das_answer.proofs.Commits.{misfit_at, commit_none, commit_some, commit_none_reply, commit_some_reply, commit_table_lem}
use Rattle.das_answer.proofs.commit.Goals as goal

pub change-change-requires : goal.change-change-requires
change-change-requires c = search (rules, misfit_at)

pub returns-then-changed-eq0-clause-value : goal.returns-then-changed-eq0-clause-value
returns-then-changed-eq0-clause-value c = search (rules, commit_none)

pub returns-then-changed-eq0-clause-t_after : goal.returns-then-changed-eq0-clause-t_after
returns-then-changed-eq0-clause-t_after c = search (rules, commit_table_lem)

pub returns-then-changed-eq0-clause-reply_after : goal.returns-then-changed-eq0-clause-reply_after
returns-then-changed-eq0-clause-reply_after c = search (rules, commit_none_reply)

pub returns-clause-value : goal.returns-clause-value
returns-clause-value c = search (rules, commit_some)

pub returns-clause-t_after : goal.returns-clause-t_after
returns-clause-t_after c = search (rules, commit_table_lem)

pub returns-clause-reply_after : goal.returns-clause-reply_after
returns-clause-reply_after c = search (rules, commit_some_reply)
