use Rattle.std.proofs.Common.{◌≡◌, ◌++◌, [], take, slice_index_or}
use Rattle.std.specs.List.{flat_map}
use Rattle.std.specs.String.{string_bytes}
use Rattle.call_edges.specs.Successors.{successor_lists}
use Rattle.call_writer.specs.Dot.{edge_line}
use Rattle.call_told.proofs.text.push_all_callees.Given as goal

-- the edges so far
abbrev pub invariant-loop-node : goal.invariant-loop-node
invariant-loop-node l =
    string_bytes l.text ≡ string_bytes l.fn.text
    ++ flat_map (λ p. flat_map (edge_line p) (slice_index_or (successor_lists l.told.program.now) p [])) (take l.node-index l.node-items)
