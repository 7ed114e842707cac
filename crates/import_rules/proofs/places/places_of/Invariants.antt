use Rattle.std.proofs.Common.{◌≡◌, take}
use Rattle.import_rules.specs.Parts.{places_of_parts}
use Rattle.import_rules.proofs.places.places_of.Given as goal

abbrev pub invariant-loop-part : goal.invariant-loop-part
invariant-loop-part l = l.places.items ≡ places_of_parts (take l.part-index l.parts)
