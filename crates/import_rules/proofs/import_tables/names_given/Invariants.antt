use Rattle.std.proofs.Common.{◌≡◌, map, take}
use Rattle.import_rules.specs.Clashes.{Imports, see_item}
use Rattle.import_rules.proofs.import_tables.names_given.Given as goal

-- the names of the items so far
abbrev pub invariant-loop-item : goal.invariant-loop-item
invariant-loop-item l = l.names.items ≡ map (λ (i : Imports). i.into) (map see_item (take l.item-index l.items))
