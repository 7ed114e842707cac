use Rattle.std.proofs.Common.{◌≡◌, ◌++◌, take}
use Rattle.std.specs.List.{flat_map}
use Rattle.std.specs.String.{string_bytes}
use Rattle.call_writer.specs.Dot.{edge_line}
use Rattle.call_writer.proofs.dot.push_edges.Given as goal

-- the edges so far
abbrev pub invariant-loop-callee : goal.invariant-loop-callee
invariant-loop-callee l = string_bytes l.text ≡ string_bytes l.fn.text ++ flat_map (edge_line l.node) (take l.callee-index l.callees)
