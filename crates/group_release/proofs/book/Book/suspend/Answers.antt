use Rattle.std.proofs.Common.{◌≡◌, ◌⊎◌, ◌+◌, ℕ, ◌<◌}
use Rattle.list_laws.specs.Counts.{flat, times}
use Rattle.group_release.specs.Book.{BookValue, GoesOnBeside}
use Rattle.group_release.specs.BookFields.{value_of}
use Rattle.group_release.specs.Outline.{kept_nodes, newly_wanted, nodes_going, nodes_on, wanted_nodes}
use Rattle.group_release.proofs.Books.{IsWellSuspended, beside_marked, ok_more, room_for, suspended_book, well_suspended}
use Rattle.group_release.proofs.book.Book.suspend.Goals as goal

pub suspend-requires-clause-can_wait : goal.suspend-requires-clause-can_wait
suspend-requires-clause-can_wait c = rw (← c.self.view_is) at c.requires.can_wait

pub suspend-requires-clause-room : goal.suspend-requires-clause-room
suspend-requires-clause-room c =
    room_for c.self.invariant (rw (← c.self.view_is) at c.keeps.ensures.table) (rw (← c.self.view_is) at c.requires.can_wait)
    (rw (← c.self.view_is) at c.requires.good)

pub suspend-requires-clause-good : goal.suspend-requires-clause-good
suspend-requires-clause-good c =
    let book : BookValue = value_of c.self.inside in
    record {
      lists = book.lists;
      roots = book.roots;
      done = flat book.groups;
      good = record { good = rw (← c.self.view_is) at c.requires.good; kept_good = c.self.invariant.good.kept_good };
    }

pub invariant_of-self : goal.invariant_of-self
invariant_of-self c =
    let well =
    well_suspended c.suspend.new.self.kept c.suspend.result c.self.view_is c.self.invariant c.keeps.ensures.table c.requires.can_wait c.requires.unreleased c.requires.good
    c.suspend.ensures.done c.suspend.ensures.good in
    suspended_book c.self.inside c.suspend.new.self _ c.args.search c.args.on c.suspend.result c.self.invariant c.suspend.ensures.only well
    c.suspend.ensures.kept

pub returns-clause-done : goal.returns-clause-done
returns-clause-done c = rw (← c.self.view_is) c.suspend.ensures.done

pub returns-clause-beside : goal.returns-clause-beside
returns-clause-beside c =
    let book : BookValue = value_of c.self.inside in
    let well =
    well_suspended c.suspend.new.self.kept c.suspend.result c.self.view_is c.self.invariant c.keeps.ensures.table c.requires.can_wait c.requires.unreleased c.requires.good
    c.suspend.ensures.done c.suspend.ensures.good in
    let now : BookValue = record book { kept = c.suspend.new.self.kept } in
    ok_more c.suspend.result (IsWellSuspended book c.suspend.new.self.kept c.args.search c.args.on) (GoesOnBeside (record now { failed = _ }))
    (λ suspended is. beside_marked now _ suspended is.beside) well

pub returns-clause-kept_count : goal.returns-clause-kept_count
returns-clause-kept_count c =
    let book : BookValue = value_of c.self.inside in
    let well =
    well_suspended c.suspend.new.self.kept c.suspend.result c.self.view_is c.self.invariant c.keeps.ensures.table c.requires.can_wait c.requires.unreleased c.requires.good
    c.suspend.ensures.done c.suspend.ensures.good in
    rw (← c.self.view_is)
    (ok_more c.suspend.result (IsWellSuspended book c.suspend.new.self.kept c.args.search c.args.on)
    (λ suspended. (x : ℕ) → times x (kept_nodes c.suspend.new.self.kept) + times x (nodes_going suspended) ≡ times x (kept_nodes book.kept) + times x (nodes_on c.args.search.stack)) (λ suspended is. is.kept_count) well)

pub returns-clause-wanted_count : goal.returns-clause-wanted_count
returns-clause-wanted_count c =
    let book : BookValue = value_of c.self.inside in
    let well =
    well_suspended c.suspend.new.self.kept c.suspend.result c.self.view_is c.self.invariant c.keeps.ensures.table c.requires.can_wait c.requires.unreleased c.requires.good
    c.suspend.ensures.done c.suspend.ensures.good in
    rw (← c.self.view_is)
    (ok_more c.suspend.result (IsWellSuspended book c.suspend.new.self.kept c.args.search c.args.on)
    (λ suspended. (x : ℕ) → 0 < times x (wanted_nodes c.suspend.new.self.kept) → (0 < times x (wanted_nodes book.kept)) ⊎ (0 < times x (newly_wanted c.args.on suspended))) (λ suspended is. is.wanted_count) well)
