-- The levels of the groups that were taken so far.
use Rattle.std.specs.Prelude.{◌≡◌, ℕ, List, length}
use Rattle.graph_law.specs.CallOrder.{AreGroupPlaces}
use Rattle.graph_law.specs.Graph.{Calls}
use Rattle.group_release.specs.Levels.{AreRaised}
use Rattle.group_release.specs.declared.level.Level.{Level}
use Rattle.group_feed.specs.Ordered.{AreOrdered}

-- what contracts see: the graph, the groups that were taken, and their levels
pub record LevelsTaken : Type 0 where
  pub lists : List (List ℕ)
  pub taken : List (List ℕ)
  pub levels : List Level

-- the groups are in a legal order, the table has the places of their nodes, and each has its level
pub record AreLeveled (lists taken : List (List ℕ)) (places : List ℕ) (levels : List Level) : Type 0 where
  pub ordered : AreOrdered lists taken
  pub each : length levels ≡ length taken
  pub placed : AreGroupPlaces (length lists) taken places
  pub raised : AreRaised (Calls lists) taken levels
