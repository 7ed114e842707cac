use Rattle.std.proofs.Common.{◌≡◌, ◌++◌, take}
use Rattle.std.specs.List.{flat_map}
use Rattle.std.specs.String.{string_bytes}
use Rattle.call_writer.specs.Dot.{next_label}
use Rattle.call_writer.proofs.condensed.push_next_labels.Given as goal

-- the labels so far
abbrev pub invariant-loop-node : goal.invariant-loop-node
invariant-loop-node l = string_bytes l.text ≡ string_bytes l.fn.text ++ flat_map (next_label l.program.predicates) (take l.node-index l.nodes)
