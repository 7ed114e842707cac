use Rattle.std.proofs.Common.{length, ◌-◌}
use Rattle.std.specs.String.{string_bytes}
use Rattle.prolog_tokens.proofs.Names.{IsUnquoted}
use Rattle.prolog_tokens.proofs.values.unquoted.Given as goal

abbrev pub invariant-loop-name : goal.invariant-loop-name
invariant-loop-name l = IsUnquoted l.text l.quote l.start l.at (string_bytes l.name)

abbrev pub decreases-loop-name : goal.decreases-loop-name
decreases-loop-name l = length l.text - l.at
