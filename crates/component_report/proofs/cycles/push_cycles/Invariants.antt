use Rattle.std.proofs.Common.{◌≡◌, ◌++◌, take, map}
use Rattle.std.specs.List.{flat_map}
use Rattle.byte_names.specs.Names.{names_of}
use Rattle.component_report.specs.Cycles.{cycle_line_at, see_cycle}
use Rattle.component_report.proofs.cycles.push_cycles.Given as goal

-- the lines so far
abbrev pub invariant-loop-place : goal.invariant-loop-place
invariant-loop-place l =
    l.text.items
    ≡ l.initial.text.items ++ flat_map (cycle_line_at l.form (names_of l.names) (map see_cycle l.cycles)) (take l.place-index l.order)
