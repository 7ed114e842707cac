use Rattle.std.proofs.Common.{◌≡◌, map, take}
use Rattle.import_rules.specs.NameTable.{name_hash}
use Rattle.import_rules.specs.Parts.{names_at}
use Rattle.import_rules.proofs.predicates.hashes_of.Given as goal

-- the hashes of the names so far
abbrev pub invariant-loop-places : goal.invariant-loop-places
invariant-loop-places l = l.hashes.items ≡ map name_hash (names_at l.files (take l.places-index l.predicates))
