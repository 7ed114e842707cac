use Rattle.std.proofs.Common.{◌≡◌, ◌++◌, take}
use Rattle.std.specs.String.{string_bytes}
use Rattle.graph_law.specs.Graph.{lists_of}
use Rattle.call_told.specs.Condensed.{node_lines_of}
use Rattle.call_told.proofs.condensed.push_all_nodes.Given as goal

-- the nodes so far
abbrev pub invariant-loop-node : goal.invariant-loop-node
invariant-loop-node l =
    string_bytes l.text
    ≡ string_bytes l.fn.text ++ node_lines_of l.told.program.now (lists_of l.told.groups.items) l.told.places.items (take l.node-index l.node-items)
