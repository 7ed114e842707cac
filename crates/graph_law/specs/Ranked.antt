-- Groups with how many nodes they reach.
use Rattle.std.specs.Prelude.{◌≡◌, ℕ, ◌<◌, List, length, map, All, Contains}
use Rattle.graph_law.specs.declared.call_order.Ranked.{Ranked}
use Rattle.graph_law.specs.Classes.{group_at}
use Rattle.graph_law.specs.CallOrder.{IsRank}

-- the place is one of a group, and the rank is its rank
pub record IsRanked (calls : ℕ → ℕ → Type 0) (count : ℕ) (groups : List (List ℕ)) (ranked : Ranked) : Type 0 where
  pub within : ranked.place < length groups
  pub rank : IsRank calls count (group_at groups ranked.place) ranked.rank

abbrev pub places : List Ranked → List ℕ
places ranked = map (λ each. each.place) ranked

-- the first n groups are ranked
pub record AreRanked (calls : ℕ → ℕ → Type 0) (count : ℕ) (groups : List (List ℕ)) (n : ℕ) (ranked : List Ranked) : Type 0 where
  pub each : length ranked ≡ n
  pub ranks : All (IsRanked calls count groups) ranked
  pub all : (i : ℕ) → i < n → Contains (places ranked) i
