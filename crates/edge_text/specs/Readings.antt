-- What reading may lead to.
use Rattle.std.specs.Prelude.{ℕ, ◌<◌, ◌≤◌, List, length}
use Rattle.byte_names.specs.Names.{names_of}
use Rattle.edge_text.specs.declared.reading.Reading.{Reading}
use Rattle.edge_text.specs.declared.reading.Reading.TheVariants.{Graph, TooManyEdges, TooManyNodes}
use Rattle.edge_text.specs.declared.limits.TheConstants.{MOST_EDGES, MOST_NODES}
use Rattle.edge_text.specs.EdgeGraph.{AreNames, IsEdgeGraph, Said}

-- the graph of what is said, or which limit it is past: first that of edges, of which equal ones count each
abbrev pub IsReading : Said → Reading → Type 0
IsReading said (Graph read) =
    (length (said.calls) ≤ MOST_EDGES) × (length read.names.items ≤ MOST_NODES) × IsEdgeGraph said (names_of read.names.items) read.graph
IsReading said TooManyEdges = MOST_EDGES < length (said.calls)
IsReading said TooManyNodes =
    (length (said.calls) ≤ MOST_EDGES) × ((names : List (List ℕ)) × AreNames said names × (MOST_NODES < length names))
