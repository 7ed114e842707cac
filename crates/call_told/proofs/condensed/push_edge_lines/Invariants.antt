use Rattle.std.proofs.Common.{◌≡◌, ◌++◌, take}
use Rattle.std.specs.String.{string_bytes}
use Rattle.call_told.specs.Condensed.{edge_lines}
use Rattle.call_told.proofs.condensed.push_edge_lines.Given as goal

-- the edges so far
abbrev pub invariant-loop-edge : goal.invariant-loop-edge
invariant-loop-edge l = string_bytes l.text ≡ string_bytes l.fn.text ++ edge_lines l.places (take l.edge-index l.edges)
