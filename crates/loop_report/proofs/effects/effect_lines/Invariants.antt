use Rattle.std.proofs.Common.{◌≡◌, take}
use Rattle.std.specs.List.{flat_map}
use Rattle.std.specs.String.{string_bytes}
use Rattle.graph_law.specs.Graph.{lists_of}
use Rattle.effect_flow.specs.Seen.{see_flows}
use Rattle.loop_report.specs.Effects.{place_effects}
use Rattle.loop_report.proofs.effects.effect_lines.Given as goal

-- the lines of the groups so far
abbrev pub invariant-loop-place : goal.invariant-loop-place
invariant-loop-place l =
    string_bytes l.text ≡ flat_map (place_effects l.program.predicates (lists_of l.groups) (see_flows l.flows)) (take l.place-index l.place-items)
