use Rattle.std.proofs.Common.{◌≡◌, ◌++◌, take}
use Rattle.std.specs.String.{string_bytes}
use Rattle.graph_law.specs.Graph.{lists_of}
use Rattle.call_table.specs.Marks.{see_marks}
use Rattle.call_told.specs.Told.{node_lines}
use Rattle.call_told.proofs.node_lines.push_nodes.Given as goal

-- the lines so far
abbrev pub invariant-loop-node : goal.invariant-loop-node
invariant-loop-node l =
    string_bytes l.text ≡ string_bytes l.fn.text
    ++ node_lines l.lines l.told.program.now (lists_of l.told.groups.items) l.told.levels.items l.told.places.items (see_marks l.told.marks) (take l.node-index l.nodes)
