use Rattle.std.proofs.Common.{◌≡◌, [], replicate}
use Rattle.graph_law.specs.Graph.{lists_of}
use Rattle.loop_report.proofs.module_graph.empty_lists.Given as goal

-- the lists so far
abbrev pub invariant-loop : goal.invariant-loop
invariant-loop l = lists_of l.lists.items ≡ replicate l.counter []
