-- Graphs as lists of successors.
use Rattle.std.specs.Prelude.{ℕ, ◌<◌, ◌≤◌, List, [], length, map, slice_index_or, All, Contains}
use Rattle.std.specs.declared.vec.Vec.{Vec}
use Rattle.graph_law.specs.declared.graph.TheConstants.{MOST_NODES}

-- what contracts see of a graph: the successors of each node, and the roots
pub record CallGraph : Type 0 where
  pub lists : List (List ℕ)
  pub roots : List ℕ

-- q is a successor of p
abbrev pub Calls : List (List ℕ) → ℕ → ℕ → Type 0
Calls lists p q = Contains (slice_index_or lists p []) q

-- each successor is a node
abbrev pub IsClosed : List (List ℕ) → Type 0
IsClosed lists = (p q : ℕ) → Calls lists p q → q < length lists

-- the successors and the roots are nodes, and there are not too many nodes
pub record IsGraph (graph : CallGraph) : Type 0 where
  pub closed : IsClosed graph.lists
  pub rooted : All (λ root. root < length graph.lists) graph.roots
  pub small : length graph.lists ≤ MOST_NODES

-- the contents of each `Vec`
abbrev pub lists_of : {X A : Type 0} → List (Vec X A) → List (List X)
lists_of vecs = map (λ vec. vec.items) vecs

-- the graph of these successor lists and roots
abbrev pub graph_of : {A : Type 0} → List (Vec ℕ A) → List ℕ → CallGraph
graph_of succs roots = record { lists = lists_of succs; roots = roots }
