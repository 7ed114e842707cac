use Rattle.std.proofs.Common.{◌≡◌, take}
use Rattle.std.specs.List.{flat_map}
use Rattle.graph_law.specs.Graph.{lists_of}
use Rattle.call_edges.specs.Successors.{successor_lists}
use Rattle.call_told.specs.EdgeLists.{edges_from}
use Rattle.call_told.proofs.condensed.all_edges.Given as goal

-- the edges so far
abbrev pub invariant-loop-node : goal.invariant-loop-node
invariant-loop-node l =
    l.edges.items
    ≡ flat_map (edges_from (successor_lists l.told.program.now) (lists_of l.told.groups.items) l.told.places.items) (take l.node-index l.node-items)
