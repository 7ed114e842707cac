-- Which suspended searches `wake` makes ready, step by step.
use Rattle.std.specs.Prelude.{◌≡◌, ℕ, ◌⊎◌, List, length, Option, None, Some}
use Rattle.search_stack.specs.Search.{SearchValue}
use Rattle.blocked_table.specs.Kept.{kept_at}

-- no suspended search waits for the node
abbrev pub IsUnwanted : List (Option SearchValue) → ℕ → Type 0
IsUnwanted kept w = (place : ℕ) (search : SearchValue) → kept_at kept place ≡ Some search → search.wanted ≡ Some w → ⊥

-- a suspended search that waited for the node is ready, and the others stay
pub record IsOneWoken (w : ℕ) (old new : List (Option SearchValue)) : Type 0 where
  pub place : ℕ
  pub search : SearchValue
  pub at : kept_at old place ≡ Some search
  pub wants : search.wanted ≡ Some w
  pub each : length new ≡ length old
  pub ready : kept_at new place ≡ Some (record search { wanted = None })
  pub same : (i : ℕ) → (i ≡ place → ⊥) → kept_at new i ≡ kept_at old i

-- the search waited for a node for which P holds, and is ready
pub record IsReadied (P : ℕ → Type 0) (new : List (Option SearchValue)) (place : ℕ) (search : SearchValue) : Type 0 where
  pub wanted : ℕ
  pub wants : search.wanted ≡ Some wanted
  pub holds : P wanted
  pub ready : kept_at new place ≡ Some (record search { wanted = None })

-- some of the searches that waited for such nodes are ready, and the others stay
pub record AreSomeWoken (P : ℕ → Type 0) (old new : List (Option SearchValue)) : Type 0 where
  pub each : length new ≡ length old
  pub none : (place : ℕ) → kept_at old place ≡ None → kept_at new place ≡ None
  pub some : (place : ℕ) (search : SearchValue) → kept_at old place ≡ Some search
      → (kept_at new place ≡ Some search) ⊎ IsReadied P new place search
