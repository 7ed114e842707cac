-- Groups that are in a legal order of a graph.
use Rattle.std.specs.Prelude.{ℕ, ◌<◌, List, length}
use Rattle.graph_law.specs.Classes.{HasMember}
use Rattle.graph_law.specs.Graph.{Calls}
use Rattle.graph_law.specs.LegalOrder.{IsLegalOrder}

-- and all their nodes are nodes of it
pub record AreOrdered (lists : List (List ℕ)) (groups : List (List ℕ)) : Type 0 where
  pub legal : IsLegalOrder (Calls lists) groups
  pub nodes : (p : ℕ) → HasMember groups p → p < length lists
