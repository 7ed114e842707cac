use Rattle.std.proofs.Common.{◌≡◌, ◌++◌, codes}
use Rattle.std.specs.List.{flat_map}
use Rattle.std.specs.String.{string_bytes}
use Rattle.loop_report.specs.Spelled.{quoted_char}
use Rattle.loop_report.proofs.spelled.push_quoted.Given as goal

abbrev pub invariant-loop-character : goal.invariant-loop-character
invariant-loop-character l = string_bytes l.text ≡ (string_bytes l.fn.text ++ codes "'") ++ flat_map quoted_char l.yielded
