use Rattle.std.proofs.Common.{◌≡◌, ◌++◌, take, codes, decimal}
use Rattle.std.specs.List.{flat_map}
use Rattle.component_report.proofs.json.push_more_numbers.Given as goal

-- the numbers so far
abbrev pub invariant-loop-byte : goal.invariant-loop-byte
invariant-loop-byte l = l.text.items ≡ l.initial.text.items ++ flat_map (λ byte. codes "," ++ decimal byte) (take l.byte-index l.bytes)
