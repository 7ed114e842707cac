use Rattle.std.proofs.Common.{◌≡◌, map, take}
use Rattle.import_rules.specs.NameTable.{name_hash}
use Rattle.import_rules.proofs.name_table.hashes_of.Given as goal

-- the hashes of the names so far
abbrev pub invariant-loop-one : goal.invariant-loop-one
invariant-loop-one l = l.hashes.items ≡ map name_hash (take l.one-index l.names)
