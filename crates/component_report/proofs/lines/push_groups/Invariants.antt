use Rattle.std.proofs.Common.{◌≡◌, ◌++◌, take}
use Rattle.std.specs.List.{flat_map}
use Rattle.graph_law.specs.Graph.{lists_of}
use Rattle.byte_names.specs.Names.{names_of}
use Rattle.component_report.specs.Report.{place_line}
use Rattle.component_report.proofs.lines.push_groups.Given as goal

-- the lines so far
abbrev pub invariant-loop-place : goal.invariant-loop-place
invariant-loop-place l =
    l.text.items ≡ l.initial.text.items ++ flat_map (place_line (names_of l.names) (lists_of l.groups) l.levels) (take l.place-index l.order)
