use Rattle.std.proofs.Common.{◌≡◌, ◌++◌, map, flat_map, take}
use Rattle.module_table.specs.Facts.{see_facts}
use Rattle.module_table.specs.Said.{see_load}
use Rattle.import_rules.specs.Clashes.{see_item}
use Rattle.import_rules.specs.KnownFiles.{files_of}
use Rattle.import_rules.specs.Offers.{pairs_of_load}
use Rattle.import_rules.proofs.pairs.push_pairs.Given as goal

-- the loads so far
abbrev pub invariant-loop-load : goal.invariant-loop-load
invariant-loop-load l =
    map see_item l.items.items
    ≡ map see_item l.initial.items.items ++ flat_map (pairs_of_load (files_of l.lookups) (see_facts l.user)) (take l.load-index (map see_load l.load-items))
