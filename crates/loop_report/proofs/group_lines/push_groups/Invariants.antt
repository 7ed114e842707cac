use Rattle.std.proofs.Common.{◌≡◌, ◌++◌, take}
use Rattle.std.specs.List.{flat_map}
use Rattle.std.specs.String.{string_bytes}
use Rattle.graph_law.specs.Graph.{lists_of}
use Rattle.loop_report.specs.Report.{place_line}
use Rattle.loop_report.proofs.group_lines.push_groups.Given as goal

-- the lines so far
abbrev pub invariant-loop-place : goal.invariant-loop-place
invariant-loop-place l =
    string_bytes l.text
    ≡ string_bytes l.initial.text ++ flat_map (place_line l.program.predicates (lists_of l.groups) l.levels) (take l.place-index l.order)
