-- Suspended searches, and where following what they wait for leads.
use Rattle.std.specs.Prelude.{◌≡◌, ℕ, ◌⊎◌, List, [], ◌∷◌, Option, None, Some, slice_index_or}
use Rattle.search_stack.specs.Stack.{Stack}
use Rattle.search_stack.specs.Search.{SearchValue, IsOn}

-- the search in a slot, or none
abbrev pub kept_at : List (Option SearchValue) → ℕ → Option SearchValue
kept_at kept i = slice_index_or kept i None

-- the search in the slot has the node on its stack
pub record Holds (kept : List (Option SearchValue)) (place v : ℕ) : Type 0 where
  pub search : SearchValue
  pub at : kept_at kept place ≡ Some search
  pub on : IsOn search.stack v

-- no node is on two suspended searches
abbrev pub IsApart : List (Option SearchValue) → Type 0
IsApart kept = (i j v : ℕ) → Holds kept i v → Holds kept j v → i ≡ j

-- the search that holds v waits for w
pub record Follows (kept : List (Option SearchValue)) (v w : ℕ) : Type 0 where
  pub place : ℕ
  pub holds : Holds kept place v
  pub wants : holds.search.wanted ≡ Some w

-- following what searches wait for leads from v over these nodes to w
abbrev pub IsChain : List (Option SearchValue) → ℕ → List ℕ → ℕ → Type 0
IsChain kept v [] w = v ≡ w
IsChain kept v (x ∷ xs) w = Follows kept v x × IsChain kept x xs w

-- no suspended search holds the node
abbrev pub IsFree : List (Option SearchValue) → ℕ → Type 0
IsFree kept v = (place : ℕ) → Holds kept place v → ⊥

-- a ready search holds the node
pub record IsAtReady (kept : List (Option SearchValue)) (v : ℕ) : Type 0 where
  pub place : ℕ
  pub holds : Holds kept place v
  pub ready : holds.search.wanted ≡ None

-- following what searches wait for leads from v to a ready search, or to a node that no suspended
-- search holds
pub record Ends (kept : List (Option SearchValue)) (v : ℕ) : Type 0 where
  pub end : ℕ
  pub steps : List ℕ
  pub chain : IsChain kept v steps end
  pub is : IsFree kept end ⊎ IsAtReady kept end

-- from each suspended search, following what searches wait for ends: the wait-for relation has no
-- cycle
abbrev pub AllEnd : List (Option SearchValue) → Type 0
AllEnd kept = (place w : ℕ) (search : SearchValue) → kept_at kept place ≡ Some search → search.wanted ≡ Some w → Ends kept w

-- following what searches wait for leads from v to a node of the stack
pub record ComesTo (kept : List (Option SearchValue)) (s : Stack) (v : ℕ) : Type 0 where
  pub end : ℕ
  pub steps : List ℕ
  pub chain : IsChain kept v steps end
  pub on : IsOn s end
