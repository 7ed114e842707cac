use Rattle.std.proofs.Common.{subst}
use Rattle.std.specs.Prelude.{Contains}
use Rattle.list_laws.specs.Counts.{flat}
use Rattle.blocked_table.specs.Blocked.{IsWoken}
use Rattle.group_release.specs.Book.{BookValue}
use Rattle.group_release.specs.BookFields.{value_of}
use Rattle.group_release.proofs.Waking.{released_book, released_count, woken_nodes, woken_wants}
use Rattle.group_release.proofs.book.Book.release.Goals as goal

pub invariant_of-self : goal.invariant_of-self
invariant_of-self c =
    let book : BookValue = value_of c.self.inside in
    let woken : IsWoken c.args.group.items c.self.inside.blocked.kept c.wake.new.self.kept = rw c.deref.ensures.value at c.wake.ensures.woken in
    released_book c.self.inside c.wake.new.self c.append.new.self c.args.group.items c.self.invariant (rw (← c.self.view_is) at c.requires.new)
    (rw (← c.self.view_is) at c.requires.releasable) (rw (← c.self.view_is) at c.requires.apart) c.wake.ensures.only woken
    c.append.ensures
    (λ more olds news place search at.
    c.wake.ensures.good book.lists book.roots (flat book.groups) more c.self.invariant.good.kept_good olds
    (λ v member. news v (subst (λ nodes. Contains nodes v) c.deref.ensures.value member)) place search at)

pub returns-clause-released_count : goal.returns-clause-released_count
returns-clause-released_count c = λ x. rw (← c.self.view_is) (released_count x c.self.inside.released c.append.new.self c.args.group.items c.append.ensures)

pub returns-clause-kept_nodes : goal.returns-clause-kept_nodes
returns-clause-kept_nodes c = rw (← c.self.view_is) (woken_nodes c.wake.ensures.woken)

pub returns-clause-wanted_count : goal.returns-clause-wanted_count
returns-clause-wanted_count c = rw (← c.self.view_is) (woken_wants c.wake.ensures.woken)
