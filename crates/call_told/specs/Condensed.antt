-- The condensed graph: a node for each group, and for each predicate that is in none.
use Rattle.std.specs.Prelude.{ℕ, ◌-◌, ◌==◌, ◌≡◌, ◌≢◌, ◌↔◌, List, ◌++◌, AllPairs, Contains, flat_map, slice_index, if◌then◌else◌, codes}
use Rattle.std.specs.declared.cmp.Ordering.{Ordering}
use Rattle.std.specs.declared.cmp.Ordering.TheVariants.{Less}
use Rattle.std.specs.Ordering.{ordering_then, nat_cmp}
use Rattle.graph_law.specs.Classes.{group_at, least_member}
use Rattle.graph_law.specs.Graph.{Calls as ListCalls}
use Rattle.import_rules.specs.Program.{Seen}
use Rattle.call_edges.specs.Successors.{successor_lists}
use Rattle.call_writer.specs.Dot.{condensed_edge, condensed_node}
use Rattle.call_told.specs.declared.condensed.Edge.{Edge}

-- the number of the node that a predicate is in: the least member of its group, or its own where it is in none
abbrev pub node_of : List (List ℕ) → List ℕ → ℕ → ℕ
node_of groups places p = if slice_index places p == 0 then p else least_member (group_at groups (slice_index places p - 1))

-- a predicate in the node that the edge leads from calls one in the node that it leads to, which is another node
pub record IsEdge (lists groups : List (List ℕ)) (places nodes : List ℕ) (edge : Edge) : Type 0 where
  pub caller : ℕ
  pub callee : ℕ
  pub told : Contains nodes caller
  pub calls : ListCalls lists caller callee
  pub from : node_of groups places caller ≡ edge.from
  pub to : node_of groups places callee ≡ edge.to
  pub apart : edge.from ≢ edge.to

-- by the node that an edge leads from, then by that which it leads to
abbrev pub edge_cmp : Edge → Edge → Ordering
edge_cmp a b = ordering_then (nat_cmp a.from b.from) (nat_cmp a.to b.to)

-- the edges, in order and each once
pub record AreEdges (lists groups : List (List ℕ)) (places nodes : List ℕ) (edges : List Edge) : Type 0 where
  pub ordered : AllPairs (λ a b. edge_cmp a b ≡ Less) edges
  pub each : (edge : Edge) → Contains edges edge ↔ IsEdge lists groups places nodes edge

-- the nodes, by their numbers
abbrev pub node_lines_of : Seen → List (List ℕ) → List ℕ → List ℕ → List ℕ
node_lines_of seen groups places nodes = flat_map (λ p. condensed_node seen.predicates groups p (slice_index places p)) nodes

abbrev pub edge_lines : List ℕ → List Edge → List ℕ
edge_lines places edges = flat_map (λ (edge : Edge). condensed_edge places edge.from edge.to) edges

abbrev pub condensed_graph : Seen → List (List ℕ) → List ℕ → List ℕ → List Edge → List ℕ
condensed_graph seen groups places nodes edges =
    codes "digraph calls {\n" ++ (node_lines_of seen groups places nodes ++ (edge_lines places edges ++ codes "}\n"))

pub record TellsCondensed (seen : Seen) (groups : List (List ℕ)) (places nodes bytes : List ℕ) : Type 0 where
  pub edges : List Edge
  pub are : AreEdges (successor_lists seen) groups places nodes edges
  pub is : bytes ≡ condensed_graph seen groups places nodes edges
