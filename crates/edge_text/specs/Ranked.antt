-- Edges between ranks.
use Rattle.std.specs.Prelude.{ℕ, List, slice_index}
use Rattle.flat_graph.specs.declared.edge.Edge.{Edge}

-- the edge between the ranks of its ends
abbrev pub ranked_edge : List ℕ → Edge → Edge
ranked_edge ranks edge = record { from = slice_index ranks edge.from; to = slice_index ranks edge.to }
