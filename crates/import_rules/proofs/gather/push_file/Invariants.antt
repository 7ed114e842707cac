use Rattle.std.proofs.Common.{◌≡◌, ◌++◌, [], map, filter, take}
use Rattle.std.specs.List.{flat_map}
use Rattle.module_table.specs.Said.{see_load}
use Rattle.import_rules.specs.Clashes.{see_item}
use Rattle.import_rules.specs.Findings.{see_findings}
use Rattle.import_rules.specs.Flaws.{load_flaws}
use Rattle.import_rules.specs.Items.{is_foreign}
use Rattle.import_rules.specs.KnownFiles.{absent_of, files_of, see_known}
use Rattle.import_rules.specs.Offers.{kept_of_load}
use Rattle.import_rules.proofs.gather.push_file.Given as goal

-- what the loads so far give
abbrev pub invariant-loop-load : goal.invariant-loop-load
invariant-loop-load l =
    (see_findings l.found.flaws.items
    ≡ see_findings l.initial.found.flaws.items ++ flat_map (load_flaws (files_of l.lookups) (absent_of l.lookups) (see_known l.file)) (take l.load-index (map see_load l.load-items)))
    × (map see_item l.found.items.items
    ≡ map see_item l.initial.found.items.items
    ++ filter (is_foreign (files_of l.lookups)) (flat_map (kept_of_load (files_of l.lookups) [] (see_known l.file)) (take l.load-index (map see_load l.load-items))))
