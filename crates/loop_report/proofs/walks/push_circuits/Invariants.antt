use Rattle.std.proofs.Common.{◌≡◌, ◌++◌, take, map}
use Rattle.std.specs.List.{flat_map}
use Rattle.std.specs.String.{string_bytes}
use Rattle.loop_report.specs.Walks.{circuit_line_at, see_circuit}
use Rattle.loop_report.proofs.walks.push_circuits.Given as goal

-- the lines so far
abbrev pub invariant-loop-place : goal.invariant-loop-place
invariant-loop-place l =
    string_bytes l.text
    ≡ string_bytes l.initial.text ++ flat_map (circuit_line_at l.program.predicates (map see_circuit l.circuits)) (take l.place-index l.order)
