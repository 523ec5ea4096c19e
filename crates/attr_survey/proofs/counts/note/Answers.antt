-- `attr_survey::counts::note` meets its contract: the first of a type is kept, any more is counted alone.
use borrow.Author.Rules.{rules}
use Rattle.attr_survey.proofs.Notes.{new_noted, old_noted}
use Rattle.attr_survey.proofs.counts.note.Goals as goal

pub returns-then-before-eq0-clause-noted_after : goal.returns-then-before-eq0-clause-noted_after
returns-then-before-eq0-clause-noted_after c = search (rules, new_noted)

pub returns-clause-noted_after : goal.returns-clause-noted_after
returns-clause-noted_after c = search (rules, old_noted)
