-- What contracts see of a book.
use Rattle.std.specs.Prelude.{◌≡◌, ℕ, ◌<◌, ◌≤◌, Bool, false, List, length, Option, None, Some, All, ⊤}
use Rattle.list_laws.specs.Counts.{flat}
use Rattle.graph_law.specs.Classes.{HasMember}
use Rattle.graph_law.specs.Graph.{Calls, IsClosed}
use Rattle.graph_law.specs.LegalOrder.{IsLegalOrder}
use Rattle.graph_law.specs.Reach.{IsReached}
use Rattle.search_stack.specs.GoodSearch.{IsGood}
use Rattle.search_stack.specs.Search.{SearchValue, IsGoodSearch, IsOn}
use Rattle.search_stack.specs.Stack.{size}
use Rattle.blocked_table.specs.Blocked.{BlockedValue}
use Rattle.blocked_table.specs.Kept.{kept_at, Holds}
use Rattle.blocked_table.specs.declared.suspended.Suspended.{Suspended}
use Rattle.blocked_table.specs.declared.suspended.Suspended.TheVariants.{Kept, Moved}
use Rattle.group_release.specs.Released.{ReleasedGroups}

-- the graph and the roots that the book was made with, how many of the roots were given out, whether the book has failed,
-- the search that is kept at each place or none, and the released groups in their order
pub record BookValue : Type 0 where
  pub lists : List (List ℕ)
  pub roots : List ℕ
  pub given : ℕ
  pub failed : Bool
  pub kept : List (Option SearchValue)
  pub groups : List (List ℕ)

-- its released groups, and its table of kept searches, with room for one of each node
abbrev pub released_of : BookValue → ReleasedGroups
released_of book = record { count = length book.lists; groups = book.groups }

abbrev pub table_of : BookValue → BlockedValue
table_of book = record { count = length book.lists; most = length book.lists; kept = book.kept }

-- the wanted node isn't released, and isn't on the search that wants it
pub record WantsOther (book : BookValue) (search : SearchValue) (w : ℕ) : Type 0 where
  pub unreleased : HasMember book.groups w → ⊥
  pub off : IsOn search.stack w → ⊥

-- the graph's successors and the roots are nodes; each kept search is good for the released nodes, with nothing undecided, wants another
-- node or none, and has no released node; and the groups are a legal order of nodes that the roots reach
pub record IsGoodBook (book : BookValue) : Type 0 where
  pub closed : IsClosed book.lists
  pub rooted : All (λ root. root < length book.lists) book.roots
  pub given : book.given ≤ length book.roots
  pub kept_good : (place : ℕ) (search : SearchValue) → kept_at book.kept place ≡ Some search
      → IsGoodSearch book.lists book.roots (flat book.groups) search
  pub wants : (place w : ℕ) (search : SearchValue) → kept_at book.kept place ≡ Some search → search.wanted ≡ Some w → WantsOther book search w
  pub unreleased : (place v : ℕ) → Holds book.kept place v → HasMember book.groups v → ⊥
  pub legal : IsLegalOrder (Calls book.lists) book.groups
  pub reached : (v : ℕ) → HasMember book.groups v → IsReached (Calls book.lists) book.roots v

-- a search that runs beside the book: it isn't empty, wants nothing, is good with nothing undecided, and shares no node with the kept
-- searches or the released groups
pub record RunsBeside (book : BookValue) (search : SearchValue) : Type 0 where
  pub some : 0 < size search.stack
  pub wants_nothing : search.wanted ≡ None
  pub good : IsGood book.lists book.roots (flat book.groups) false search.stack
  pub apart : (place v : ℕ) → Holds book.kept place v → IsOn search.stack v → ⊥
  pub unreleased : (v : ℕ) → IsOn search.stack v → HasMember book.groups v → ⊥

-- and so does the search that goes on after a transfer
abbrev pub GoesOnBeside : BookValue → Suspended → Type 0
GoesOnBeside book Kept = ⊤
GoesOnBeside book (Moved after) = RunsBeside book after
