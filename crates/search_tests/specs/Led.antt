-- A search that is led by hand beside a book.
use Rattle.std.specs.Prelude.{◌≡◌, ℕ, ◌<◌, true, None}
use Rattle.list_laws.specs.Counts.{flat}
use Rattle.graph_law.specs.Classes.{HasMember}
use Rattle.search_stack.specs.GoodSearch.{IsGood}
use Rattle.search_stack.specs.Search.{IsLastBegun, IsOn, SearchValue}
use Rattle.search_stack.specs.Stack.{size}
use Rattle.blocked_table.specs.Kept.{Holds, IsFree}
use Rattle.group_release.specs.Book.{BookValue}

-- the search runs beside the book, and its last edge, which leads to the node, isn't settled
pub record LeadsTo (book : BookValue) (search : SearchValue) (next : ℕ) : Type 0 where
  pub some : 0 < size search.stack
  pub wants_nothing : search.wanted ≡ None
  pub good : IsGood book.lists book.roots (flat book.groups) true search.stack
  pub apart : (place v : ℕ) → Holds book.kept place v → IsOn search.stack v → ⊥
  pub unreleased : (v : ℕ) → IsOn search.stack v → HasMember book.groups v → ⊥
  pub last : IsLastBegun search.stack next

-- no kept search has the node, and no group
pub record IsFreeIn (book : BookValue) (node : ℕ) : Type 0 where
  pub unkept : IsFree book.kept node
  pub unreleased : HasMember book.groups node → ⊥
