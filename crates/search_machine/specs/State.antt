-- Many searches on one thread: what there is between two events.
use Rattle.std.specs.Prelude.{◌≡◌, ℕ, ◌+◌, ◌<◌, ◌⊎◌, Bool, true, false, is_some, List, length, map, slice_index_or, Option, None, Some, Contains}
use Rattle.list_laws.specs.Counts.{times, flat}
use Rattle.graph_law.specs.Graph.{Calls}
use Rattle.graph_law.specs.Reach.{IsReached}
use Rattle.search_stack.specs.GoodSearch.{IsGood}
use Rattle.search_stack.specs.Search.{SearchValue, IsLastBegun}
use Rattle.search_stack.specs.Stack.{size}
use Rattle.blocked_table.specs.Kept.{kept_at, AllEnd}
use Rattle.group_release.specs.Book.{BookValue, IsGoodBook}
use Rattle.group_release.specs.Outline.{kept_nodes, listed}

-- at each place a search or none, and the node whose opening the place waits for or none; the kept searches; which nodes are claimed;
-- the roots to come; and the released groups in their order
pub record State : Type 0 where
  pub running : List (Option SearchValue)
  pub waiting : List (Option ℕ)
  pub kept : List (Option SearchValue)
  pub claimed : List Bool
  pub to_come : List ℕ
  pub groups : List (List ℕ)

abbrev pub IsClaimed : State → ℕ → Type 0
IsClaimed s v = slice_index_or s.claimed v false ≡ true

-- the node whose opening the place waits for, or none
abbrev pub waiting_at : State → ℕ → Option ℕ
waiting_at s place = slice_index_or s.waiting place None

-- how often the node stands on a search at a place or on a kept one, is waited for, or is released
abbrev pub times_standing : State → ℕ → ℕ
times_standing s v = times v (kept_nodes s.running) + times v (flat (map listed s.waiting)) + (times v (kept_nodes s.kept) + times v (flat s.groups))

-- a search at a place isn't empty, wants nothing and is good for the released nodes. The last edge that its top has begun is open just
-- where the place waits for an opening, and maybe in a state that has failed
pub record IsRunning (lists : List (List ℕ)) (roots : List ℕ) (failed : Bool) (groups : List (List ℕ)) (waits : Option ℕ) (search : SearchValue)
    : Type 0 where
  pub some : 0 < size search.stack
  pub wants_nothing : search.wanted ≡ None
  pub opened : Bool
  pub is_open : failed ≡ false → opened ≡ is_some waits
  pub waits_open : is_some waits ≡ true → opened ≡ true
  pub good : IsGood lists roots (flat groups) opened search.stack

-- an idle place waits for a node that a root reaches, and any other for the node to which the last edge of its search leads
pub record WaitsFor (lists : List (List ℕ)) (roots : List ℕ) (there : Option SearchValue) (v : ℕ) : Type 0 where
  pub idle : there ≡ None → IsReached (Calls lists) roots v
  pub last : (search : SearchValue) → there ≡ Some search → IsLastBegun search.stack v

-- the kept searches and the released groups, as a book of the graph and the roots
abbrev pub book_of : List (List ℕ) → List ℕ → State → BookValue
book_of lists roots s = record { lists = lists; roots = roots; given = 0; failed = false; kept = s.kept; groups = s.groups }

-- what each event keeps
pub record IsGoodState (lists : List (List ℕ)) (roots : List ℕ) (failed : Bool) (s : State) : Type 0 where
  pub counted : length s.claimed ≡ length lists
  pub places : length s.waiting ≡ length s.running
  -- the kept searches are good and the groups a legal order, and no kept searches want each other in a ring
  pub book : IsGoodBook (book_of lists roots s)
  pub some : (place : ℕ) (search : SearchValue) → kept_at s.kept place ≡ Some search → 0 < size search.stack
  pub ends : AllEnd s.kept
  -- the searches at places, and what places wait for and kept searches want
  pub running : (place : ℕ) (search : SearchValue) → kept_at s.running place ≡ Some search
      → IsRunning lists roots failed s.groups (waiting_at s place) search
  pub waits : (place v : ℕ) → waiting_at s place ≡ Some v → WaitsFor lists roots (kept_at s.running place) v
  pub wants : (place w : ℕ) (search : SearchValue) → kept_at s.kept place ≡ Some search → search.wanted ≡ Some w → IsClaimed s w
  -- each claimed node stands on one search, once, or is waited for or released; and no other node does
  pub once : (v : ℕ) → IsClaimed s v → times_standing s v ≡ 1
  pub never : (v : ℕ) → (IsClaimed s v → ⊥) → times_standing s v ≡ 0
  -- the roots to come are roots, and each root is to come or claimed
  pub come : (v : ℕ) → Contains s.to_come v → Contains roots v
  pub given : (v : ℕ) → Contains roots v → Contains s.to_come v ⊎ IsClaimed s v
