use Rattle.std.proofs.Common.{◌≡◌}
use Rattle.std.specs.Char.{encode_utf8}
use Rattle.std.specs.List.{flat_map}
use Rattle.call_writer.specs.Json.{json_char}
use Rattle.call_writer.proofs.json.are_plain.Given as goal

-- so far all stand as they are
abbrev pub invariant-loop-character : goal.invariant-loop-character
invariant-loop-character l = flat_map json_char l.yielded ≡ flat_map encode_utf8 l.yielded
