use Rattle.std.proofs.Common.{◌≡◌, ◌++◌}
use Rattle.import_rules.specs.Parts.{parts_to}
use Rattle.import_rules.proofs.part.push_parts.Given as goal

abbrev pub invariant-loop-part : goal.invariant-loop-part
invariant-loop-part l = l.parts.items ≡ l.fn.parts.items ++ parts_to l.file l.part
