-- Which group each predicate is in.
use Rattle.std.specs.Prelude.{ℕ, zero, suc, ◌≡◌, ◌<◌, List, length, slice_index, Contains}
use Rattle.graph_law.specs.Classes.{HasMember, group_at}

-- the node is in none of the groups where the place is 0, else in the group at one less
abbrev pub IsGroupOf : List (List ℕ) → ℕ → ℕ → Type 0
IsGroupOf groups node zero = HasMember groups node → ⊥
IsGroupOf groups node (suc place) = (place < length groups) × Contains (group_at groups place) node

-- and so for each node below the count
pub record AreGroupsOf (count : ℕ) (groups : List (List ℕ)) (places : List ℕ) : Type 0 where
  pub each : length places ≡ count
  pub is : (p : ℕ) → p < count → IsGroupOf groups p (slice_index places p)
