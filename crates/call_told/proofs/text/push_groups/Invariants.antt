use Rattle.std.proofs.Common.{◌≡◌, ◌++◌, take, zip}
use Rattle.std.specs.List.{flat_map}
use Rattle.std.specs.String.{string_bytes}
use Rattle.graph_law.specs.Graph.{lists_of}
use Rattle.call_told.specs.Told.{drawn_group}
use Rattle.call_told.proofs.text.push_groups.Given as goal

-- the groups so far
abbrev pub invariant-loop-place : goal.invariant-loop-place
invariant-loop-place l =
    string_bytes l.text
    ≡ string_bytes l.fn.text ++ flat_map (drawn_group l.told.program.now) (take l.place (zip (lists_of l.told.groups.items) l.told.levels.items))
