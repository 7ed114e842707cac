use Rattle.std.proofs.Common.{◌≡◌, map, take}
use Rattle.call_edges.specs.FileOrder.{see_start, start_in}
use Rattle.call_edges.proofs.starts.starts_from.Given as goal

-- the predicates so far
abbrev pub invariant-loop-node : goal.invariant-loop-node
invariant-loop-node l = map see_start l.starts.items ≡ map (start_in l.program) (take l.node-index l.nodes)
