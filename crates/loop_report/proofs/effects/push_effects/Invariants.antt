use Rattle.std.proofs.Common.{◌≡◌, ◌++◌}
use Rattle.std.specs.List.{flat_map, range_with_len}
use Rattle.std.specs.String.{string_bytes}
use Rattle.effect_flow.specs.Carriers.{first_at}
use Rattle.effect_flow.specs.Seen.{see_flow}
use Rattle.loop_report.specs.Effects.{effect_line, kind_word}
use Rattle.loop_report.proofs.effects.push_effects.Given as goal

-- the lines of the kinds so far
abbrev pub invariant-loop-kind : goal.invariant-loop-kind
invariant-loop-kind l =
    string_bytes l.text
    ≡ string_bytes l.initial.text
    ++ flat_map (λ kind. effect_line l.program.predicates l.least (kind_word kind) (first_at (see_flow l.fn.flow) kind)) (range_with_len 0 l.kind)
