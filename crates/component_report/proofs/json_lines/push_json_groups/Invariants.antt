use Rattle.std.proofs.Common.{◌≡◌, ◌++◌, take}
use Rattle.graph_law.specs.Graph.{lists_of}
use Rattle.byte_names.specs.Names.{names_of}
use Rattle.component_report.specs.JsonLines.{json_lines}
use Rattle.component_report.proofs.json_lines.push_json_groups.Given as goal

-- the lines so far
abbrev pub invariant-loop-place : goal.invariant-loop-place
invariant-loop-place l =
    (l.id ≡ l.place-index)
    × (l.text.items ≡ l.initial.text.items ++ json_lines (names_of l.names) (lists_of l.groups) l.levels 0 (take l.place-index l.order))
