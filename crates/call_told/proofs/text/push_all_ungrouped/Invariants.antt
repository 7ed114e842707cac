use Rattle.std.proofs.Common.{◌≡◌, ◌++◌, take}
use Rattle.std.specs.List.{flat_map}
use Rattle.std.specs.String.{string_bytes}
use Rattle.call_told.specs.Told.{ungrouped_line}
use Rattle.call_told.proofs.text.push_all_ungrouped.Given as goal

-- the lines so far
abbrev pub invariant-loop-node : goal.invariant-loop-node
invariant-loop-node l =
    string_bytes l.text ≡ string_bytes l.fn.text ++ flat_map (ungrouped_line l.told.program.now l.told.places.items) (take l.node-index l.node-items)
