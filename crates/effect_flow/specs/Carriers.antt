-- The carriers of effects: the least nodes that have them.
use Rattle.std.specs.Prelude.{◌≡◌, ℕ, ◌<◌, ◌≤◌, ◌==◌, List, [], length, Option, Some, None, if◌then◌else◌, slice_index, slice_index_or, IsBitSet}
use Rattle.graph_law.specs.Classes.{group_at}
use Rattle.graph_law.specs.Reach.{IsReached}
use Rattle.effect_flow.specs.declared.kinds.TheConstants.{KINDS}

-- a number as a node: the greatest stands for none
abbrev pub see_node : ℕ → Option ℕ
see_node number = if number == 4294967295 then None else Some number

-- the node of that kind, if there is one
abbrev pub first_at : List (Option ℕ) → ℕ → Option ℕ
first_at flow kind = slice_index_or flow kind None

-- there is a node, and it isn't above this one
abbrev pub IsUpTo : Option ℕ → ℕ → Type 0
IsUpTo None q = ⊥
IsUpTo (Some first) q = first ≤ q

-- the least of the nodes for which this holds, and none where it holds for none
pub record IsFirst (P : ℕ → Type 0) (first : Option ℕ) : Type 0 where
  pub is : (q : ℕ) → first ≡ Some q → P q
  pub least : (q : ℕ) → P q → IsUpTo first q

-- the node has the kind itself
abbrev pub HasKind : List ℕ → ℕ → ℕ → Type 0
HasKind own kind q = IsBitSet (slice_index own q) kind

-- a member of the group reaches the node, which has the kind itself
pub record IsCarried (calls : ℕ → ℕ → Type 0) (own : List ℕ) (kind : ℕ) (group : List ℕ) (q : ℕ) : Type 0 where
  pub reached : IsReached calls group q
  pub has : HasKind own kind q

-- the carrier of a group for a kind: the least node with the kind that a member reaches; none where there is no such node
abbrev pub IsCarrier : (ℕ → ℕ → Type 0) → List ℕ → ℕ → List ℕ → Option ℕ → Type 0
IsCarrier calls own kind group carrier = IsFirst (IsCarried calls own kind group) carrier

-- the flow at a place
abbrev pub flow_at : List (List (Option ℕ)) → ℕ → List (Option ℕ)
flow_at flows place = slice_index_or flows place []

-- the flow has the carriers of the group
abbrev pub IsFlow : (ℕ → ℕ → Type 0) → List ℕ → List ℕ → List (Option ℕ) → Type 0
IsFlow calls own group flow = (kind : ℕ) → kind < KINDS → IsCarrier calls own kind group (first_at flow kind)

-- for each group its carriers
pub record AreFlows (calls : ℕ → ℕ → Type 0) (own : List ℕ) (groups : List (List ℕ)) (flows : List (List (Option ℕ))) : Type 0 where
  pub each : length flows ≡ length groups
  pub carriers : (place : ℕ) → place < length groups → IsFlow calls own (group_at groups place) (flow_at flows place)
