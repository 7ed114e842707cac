-- Edges of the condensed graph as they are collected, call by call.
use Rattle.std.specs.Prelude.{ℕ, ◌<◌, ◌==◌, List, [], ◌∷◌, flat_map, slice_index_or, if◌then◌else◌}
use Rattle.call_told.specs.Condensed.{node_of}
use Rattle.call_told.specs.declared.condensed.Edge.{Edge}

-- the edge from a node to that of a predicate, and none to the node itself
abbrev pub edge_to : List (List ℕ) → List ℕ → ℕ → ℕ → List Edge
edge_to groups places from callee =
    if from == node_of groups places callee then [] else record { from = from; to = node_of groups places callee } ∷ []

-- those for the calls of a predicate
abbrev pub edges_from : List (List ℕ) → List (List ℕ) → List ℕ → ℕ → List Edge
edges_from lists groups places caller = flat_map (edge_to groups places (node_of groups places caller)) (slice_index_or lists caller [])

-- both ends are predicates
abbrev pub AreBelow : ℕ → Edge → Type 0
AreBelow count edge = (edge.from < count) × (edge.to < count)
