-- Orders in which groups may be released: callees first.
use Rattle.std.specs.Prelude.{◌≡◌, ℕ, ◌<◌, ◌≤◌, List, length, All, Contains}
use Rattle.graph_law.specs.Classes.{group_at, HasMember, IsClass}

-- p is a member of the group at a place that is not after i
pub record StandsUpTo (groups : List (List ℕ)) (i p : ℕ) : Type 0 where
  pub place : ℕ
  pub upto : place ≤ i
  pub member : Contains (group_at groups place) p

-- each list is a class, no node stands in two lists, and each call leads into the same list or an earlier one
pub record IsLegalOrder (calls : ℕ → ℕ → Type 0) (groups : List (List ℕ)) : Type 0 where
  pub each : All (IsClass calls) groups
  pub once : (i j p : ℕ) → i < length groups → j < length groups
      → Contains (group_at groups i) p → Contains (group_at groups j) p → i ≡ j
  pub callees_first : (i p q : ℕ) → i < length groups → Contains (group_at groups i) p → calls p q → StandsUpTo groups i q

-- each root is in one of the lists
abbrev pub IsComplete : List ℕ → List (List ℕ) → Type 0
IsComplete roots groups = All (HasMember groups) roots
