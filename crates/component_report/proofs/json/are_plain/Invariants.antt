use Rattle.std.proofs.Common.{◌≡◌, take}
use Rattle.std.specs.List.{flat_map}
use Rattle.component_report.specs.Json.{json_byte}
use Rattle.component_report.proofs.json.are_plain.Given as goal

-- the bytes so far are plain
abbrev pub invariant-loop-byte : goal.invariant-loop-byte
invariant-loop-byte l = flat_map json_byte (take l.byte-index l.bytes) ≡ take l.byte-index l.bytes
