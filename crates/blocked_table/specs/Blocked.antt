-- What contracts see of suspended searches.
use Rattle.std.specs.Prelude.{◌≡◌, ℕ, ◌<◌, ◌≤◌, ◌⊎◌, List, length, Option, None, Some, Contains}
use Rattle.search_stack.specs.Stack.{size}
use Rattle.search_stack.specs.Search.{SearchValue, IsDistinct}
use Rattle.blocked_table.specs.Kept.{kept_at, Holds, IsApart, AllEnd}

-- nodes are below the count, there are at most `most` slots, and each has a search or none
pub record BlockedValue : Type 0 where
  pub count : ℕ
  pub most : ℕ
  pub kept : List (Option SearchValue)

-- a suspended search isn't empty, and no node is on it twice
pub record IsKept (search : SearchValue) : Type 0 where
  pub some : 0 < size search.stack
  pub distinct : IsDistinct search.stack

-- there are at most `most` slots, nodes are below the count, none is on two searches, and following
-- what searches wait for ends
pub record IsTable (value : BlockedValue) : Type 0 where
  pub few : length value.kept ≤ value.most
  pub each : (place : ℕ) (search : SearchValue) → kept_at value.kept place ≡ Some search → IsKept search
  pub below : (place v : ℕ) → Holds value.kept place v → v < value.count
  pub apart : IsApart value.kept
  pub ends : AllEnd value.kept

-- there is a slot for one more search
abbrev pub HasRoom : BlockedValue → Type 0
HasRoom value = (length value.kept < value.most) ⊎ ((place : ℕ) × (place < length value.kept) × (kept_at value.kept place ≡ None))

-- the search in the slot is ready
pub record IsReadyAt (kept : List (Option SearchValue)) (place : ℕ) : Type 0 where
  pub search : SearchValue
  pub at : kept_at kept place ≡ Some search
  pub wants_nothing : search.wanted ≡ None

-- a suspended search is ready
pub record HasReady (kept : List (Option SearchValue)) : Type 0 where
  pub place : ℕ
  pub ready : IsReadyAt kept place

-- the ready search in a slot has left it, and the others stay
pub record IsTaken (old new : List (Option SearchValue)) (search : SearchValue) : Type 0 where
  pub place : ℕ
  pub at : kept_at old place ≡ Some search
  pub wants_nothing : search.wanted ≡ None
  pub each : length new ≡ length old
  pub vacant : kept_at new place ≡ None
  pub same : (i : ℕ) → (i ≡ place → ⊥) → kept_at new i ≡ kept_at old i

-- a suspended search that waited for a node of the group is ready, and each other stays as it was
pub record IsWoken (group : List ℕ) (old new : List (Option SearchValue)) : Type 0 where
  pub each : length new ≡ length old
  pub none : (place : ℕ) → kept_at old place ≡ None → kept_at new place ≡ None
  pub woken : (place w : ℕ) (search : SearchValue) → kept_at old place ≡ Some search → search.wanted ≡ Some w → Contains group w
      → kept_at new place ≡ Some (record search { wanted = None })
  pub same : (place : ℕ) (search : SearchValue) → kept_at old place ≡ Some search
      → ((w : ℕ) → search.wanted ≡ Some w → Contains group w → ⊥) → kept_at new place ≡ Some search
