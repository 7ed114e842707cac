use Rattle.std.proofs.Common.{◌≡◌, ◌++◌, take}
use Rattle.std.specs.List.{flat_map}
use Rattle.std.specs.String.{string_bytes}
use Rattle.graph_law.specs.Graph.{lists_of}
use Rattle.loop_report.specs.Report.{loop_line}
use Rattle.loop_report.proofs.loops.push_loops.Given as goal

-- the lines so far
abbrev pub invariant-loop-names : goal.invariant-loop-names
invariant-loop-names l = string_bytes l.text ≡ string_bytes l.initial.text ++ flat_map loop_line (take l.names-index (lists_of l.loops))
