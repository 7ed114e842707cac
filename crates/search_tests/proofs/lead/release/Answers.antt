use Rattle.std.proofs.Common.{sym, subst}
use Rattle.std.specs.Prelude.{Contains}
use Rattle.list_laws.specs.Counts.{flat}
use Rattle.search_stack.specs.Stack.{top}
use Rattle.group_release.specs.Book.{released_of}
use Rattle.group_release.specs.Released.{IsNewGroup}
use Rattle.search_tests.proofs.LedSteps.{from_on, new_group}
use Rattle.search_tests.proofs.lead.release.Goals as goal

pub release-requires-clause-new : goal.release-requires-clause-new
release-requires-clause-new c =
    subst (IsNewGroup (released_of c.args.book.now)) (sym c.in_ok-group.ensures.group)
    (new_group c.requires.runs c.keeps.ensures.good c.requires.ripe c.len.ensures.distinct)

pub release-requires-clause-releasable : goal.release-requires-clause-releasable
release-requires-clause-releasable c =
    c.in_ok-group.ensures.releasable c.args.book.now.lists c.args.book.now.roots (flat c.args.book.now.groups) c.requires.runs.good

pub release-requires-clause-apart : goal.release-requires-clause-apart
release-requires-clause-apart c = λ place v holds has.
    c.requires.runs.apart place v holds
    (from_on c.args.search.stack (top c.args.search.stack) v (subst (λ these. Contains these v) c.in_ok-group.ensures.group has))
