use Rattle.std.proofs.Common.{◌≡◌, ◌+◌, ℕ}
use Rattle.std.specs.Prelude.{IfSome}
use Rattle.list_laws.specs.Counts.{times}
use Rattle.blocked_table.specs.Blocked.{IsTable}
use Rattle.group_release.specs.Book.{BookValue, RunsBeside, table_of}
use Rattle.group_release.specs.BookFields.{value_of}
use Rattle.group_release.specs.Outline.{kept_nodes, nodes_on}
use Rattle.group_release.proofs.Books.{IsWellTaken, some_more, some_well, taken_book, taken_wants}
use Rattle.group_release.proofs.book.Book.take_ready.Goals as goal

pub invariant_of-self : goal.invariant_of-self
invariant_of-self c =
    let book : BookValue = value_of c.self.inside in
    let table : IsTable (table_of book) = rw (← c.self.view_is) at c.keeps.ensures.table in
    let well : IfSome c.take_ready.result (IsWellTaken book c.take_ready.new.self.kept) =
    some_well c.self.invariant.good table c.take_ready.new.self.kept c.take_ready.result c.take_ready.ensures.some in
    taken_book c.self.inside c.take_ready.new.self c.take_ready.result c.self.invariant c.take_ready.ensures.only well
    c.take_ready.ensures.unchanged

pub returns-clause-beside : goal.returns-clause-beside
returns-clause-beside c =
    let book : BookValue = value_of c.self.inside in
    let table : IsTable (table_of book) = rw (← c.self.view_is) at c.keeps.ensures.table in
    let well : IfSome c.take_ready.result (IsWellTaken book c.take_ready.new.self.kept) =
    some_well c.self.invariant.good table c.take_ready.new.self.kept c.take_ready.result c.take_ready.ensures.some in
    some_more c.take_ready.result (IsWellTaken book c.take_ready.new.self.kept) (RunsBeside (record book { kept = c.take_ready.new.self.kept }))
    (λ search is. is.beside) well

pub returns-clause-kept_count : goal.returns-clause-kept_count
returns-clause-kept_count c =
    let book : BookValue = value_of c.self.inside in
    let table : IsTable (table_of book) = rw (← c.self.view_is) at c.keeps.ensures.table in
    let well : IfSome c.take_ready.result (IsWellTaken book c.take_ready.new.self.kept) =
    some_well c.self.invariant.good table c.take_ready.new.self.kept c.take_ready.result c.take_ready.ensures.some in
    rw (← c.self.view_is)
    (some_more c.take_ready.result (IsWellTaken book c.take_ready.new.self.kept)
    (λ search. (x : ℕ) → times x (kept_nodes c.take_ready.new.self.kept) + times x (nodes_on search.stack) ≡ times x (kept_nodes book.kept))
    (λ search is. is.kept_count) well)

pub returns-clause-wanted_count : goal.returns-clause-wanted_count
returns-clause-wanted_count c =
    let book : BookValue = value_of c.self.inside in
    let table : IsTable (table_of book) = rw (← c.self.view_is) at c.keeps.ensures.table in
    let well : IfSome c.take_ready.result (IsWellTaken book c.take_ready.new.self.kept) =
    some_well c.self.invariant.good table c.take_ready.new.self.kept c.take_ready.result c.take_ready.ensures.some in
    rw (← c.self.view_is) (taken_wants c.self.inside c.take_ready.new.self c.take_ready.result well c.take_ready.ensures.unchanged)
