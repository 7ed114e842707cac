-- What becomes of a search that is to be suspended, and of the searches that it would wait for.
use Rattle.std.specs.Prelude.{◌≡◌, ℕ, ◌+◌, ◌<◌, ◌≤◌, true, false, List, [], ◌∷◌, Option, None, Some}
use Rattle.search_stack.specs.Stack.{Stack, size}
use Rattle.search_stack.specs.GoodSearch.{IsGood}
use Rattle.search_stack.specs.Search.{SearchValue, IsGoodSearch, IsLastBegun, IsOn, joined}
use Rattle.blocked_table.specs.declared.suspended.Suspended.{Suspended}
use Rattle.blocked_table.specs.declared.suspended.Suspended.TheVariants.{Kept, Moved}
use Rattle.blocked_table.specs.Blocked.{BlockedValue, HasRoom}
use Rattle.blocked_table.specs.Kept.{kept_at, ComesTo, Holds}
use Rattle.blocked_table.specs.Transfer.{IsCutAway, IsTransfer}

-- the number of entries of a search, 0 if there is none, and of the one in a slot
abbrev pub entries_on : Option SearchValue → ℕ
entries_on None = 0
entries_on (Some search) = size search.stack

abbrev pub entries_at : List (Option SearchValue) → ℕ → ℕ
entries_at kept place = entries_on (kept_at kept place)

-- and of those in several slots together
abbrev pub entries_of : List (Option SearchValue) → List ℕ → ℕ
entries_of kept [] = 0
entries_of kept (place ∷ places) = entries_at kept place + entries_of kept places

-- one more search is in a slot that had none, and the others stay
pub record Adds (old new : List (Option SearchValue)) (place : ℕ) (search : SearchValue) : Type 0 where
  pub vacant : kept_at old place ≡ None
  pub at : kept_at new place ≡ Some search
  pub same : (i : ℕ) → (i ≡ place → ⊥) → kept_at new i ≡ kept_at old i

-- the search in the slot is cut at v, and its upper part comes on top of s
pub record IsPartMoved (old new : List (Option SearchValue)) (s t : Stack) (v place wants : ℕ) : Type 0 where
  pub frame : ℕ
  pub away : IsCutAway old v (place, frame)
  pub next_is : away.next ≡ new
  pub stack_is : t ≡ joined s away.donor.stack frame
  pub wants_is : away.wants ≡ wants

-- and it is on top of the search, which waits for nothing and has used no more capacity than for it
pub record IsPartOnTop (old new : List (Option SearchValue)) (search after : SearchValue) (v place wants : ℕ) : Type 0 where
  pub part : IsPartMoved old new search.stack after.stack v place wants
  pub wants_nothing : after.wanted ≡ None
  pub spare : (donor : SearchValue) → kept_at old place ≡ Some donor → search.spare ≤ after.spare + size donor.stack

-- the search and the suspended ones satisfy the invariant for one graph, list of roots and finished
-- nodes, the search with its last edge open
pub record AreGood (lists : List (List ℕ)) (roots done : List ℕ) (kept : List (Option SearchValue)) (s : Stack) : Type 0 where
  pub good : IsGood lists roots done true s
  pub kept_good : (place : ℕ) (search : SearchValue) → kept_at kept place ≡ Some search → IsGoodSearch lists roots done search

-- and so they do for some graph, roots and finished nodes
pub record AreGoodForSome (kept : List (Option SearchValue)) (s : Stack) : Type 0 where
  pub lists : List (List ℕ)
  pub roots : List ℕ
  pub done : List ℕ
  pub good : AreGood lists roots done kept s

-- the search can wait for the node next to these suspended searches
pub record CanWait (kept : List (Option SearchValue)) (search : SearchValue) (on : ℕ) : Type 0 where
  -- it has a node
  pub some : 0 < size search.stack
  -- it waits for nothing yet
  pub wants_nothing : search.wanted ≡ None
  -- none of its nodes is on a suspended search
  pub apart : (place v : ℕ) → Holds kept place v → IsOn search.stack v → ⊥
  -- its last edge leads to the node
  pub last : IsLastBegun search.stack on
  -- the node isn't on the search itself
  pub off : IsOn search.stack on → ⊥

-- there is a slot for the search, and its nodes and the one that it is to wait for have words
pub record HasRoomFor (value : BlockedValue) (s : Stack) (on : ℕ) : Type 0 where
  -- a slot is vacant, or one more can be made
  pub slot : HasRoom value
  -- its nodes are below the count
  pub below : (v : ℕ) → IsOn s v → v < value.count
  -- and so is the one that it is to wait for
  pub on_below : on < value.count

-- the search is suspended if it wouldn't wait for itself, and else the searches on the cycle have
-- moved on top of it
abbrev pub IsSuspended : List (Option SearchValue) → List (Option SearchValue) → SearchValue → ℕ → Suspended → Type 0
IsSuspended old new search on Kept =
    (ComesTo old search.stack on → ⊥) × ((place : ℕ) × Adds old new place (record search { wanted = Some on }))
IsSuspended old new search on (Moved after) =
    ComesTo old search.stack on × IsTransfer old new search.stack on after.stack × (after.wanted ≡ None)

-- each suspended search satisfies the invariant with no edge open, and so does the one that goes on
abbrev pub StaysGood : List (List ℕ) → List ℕ → List ℕ → List (Option SearchValue) → Suspended → Type 0
StaysGood lists roots done new Kept =
    (place : ℕ) (search : SearchValue) → kept_at new place ≡ Some search → IsGoodSearch lists roots done search
StaysGood lists roots done new (Moved after) =
    ((place : ℕ) (search : SearchValue) → kept_at new place ≡ Some search → IsGoodSearch lists roots done search)
    × IsGood lists roots done false after.stack
