use Rattle.std.proofs.Common.{◌≡◌, ◌++◌, take}
use Rattle.std.specs.List.{flat_map}
use Rattle.graph_law.specs.Graph.{lists_of}
use Rattle.call_told.specs.EdgeLists.{edge_to}
use Rattle.call_told.proofs.condensed.push_edges_to.Given as goal

-- the edges so far
abbrev pub invariant-loop-callee : goal.invariant-loop-callee
invariant-loop-callee l =
    l.edges.items ≡ l.fn.edges.items ++ flat_map (edge_to (lists_of l.told.groups.items) l.told.places.items l.from) (take l.callee-index l.callees)
