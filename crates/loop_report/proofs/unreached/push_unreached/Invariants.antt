use Rattle.std.proofs.Common.{◌≡◌, ◌++◌}
use Rattle.std.specs.List.{flat_map}
use Rattle.std.specs.String.{string_bytes}
use Rattle.graph_law.specs.Graph.{lists_of}
use Rattle.loop_report.specs.Report.{unreached_line, ungrouped}
use Rattle.loop_report.proofs.unreached.push_unreached.Given as goal

-- the lines so far
abbrev pub invariant-loop-node : goal.invariant-loop-node
invariant-loop-node l =
    string_bytes l.text
    ≡ string_bytes l.initial.text ++ flat_map (unreached_line l.program.predicates) (ungrouped (lists_of l.groups) l.node)
