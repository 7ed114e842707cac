use Rattle.std.proofs.Common.{◌≡◌, ◌++◌, map, take}
use Rattle.module_table.specs.Facts.{see_facts}
use Rattle.import_rules.specs.Clashes.{see_item}
use Rattle.import_rules.specs.Offers.{offer}
use Rattle.import_rules.proofs.offers.push_exported.Given as goal

-- the exports so far
abbrev pub invariant-loop-export : goal.invariant-loop-export
invariant-loop-export l =
    map see_item l.items.items
    ≡ map see_item l.initial.items.items ++ map (offer (see_facts l.file)) (take l.export-index l.export-items)
