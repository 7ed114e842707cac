use Rattle.std.proofs.Common.{◌≡◌, ◌++◌, map, filter, take}
use Rattle.module_table.specs.Facts.{see_facts}
use Rattle.import_rules.specs.Clashes.{see_item}
use Rattle.import_rules.specs.Items.{is_foreign, item}
use Rattle.import_rules.specs.KnownFiles.{files_of, shared_of}
use Rattle.import_rules.specs.Offers.{is_shared}
use Rattle.import_rules.proofs.taken.push_exports.Given as goal

-- the exports so far whose names are shared
abbrev pub invariant-loop-export : goal.invariant-loop-export
invariant-loop-export l =
    map see_item l.items.items
    ≡ map see_item l.initial.items.items
    ++ filter (is_foreign (files_of l.lookups)) (map (item (see_facts l.user) (see_facts l.file) l.load.from) (filter (is_shared (shared_of l.lookups)) (take l.export-index l.export-items)))
