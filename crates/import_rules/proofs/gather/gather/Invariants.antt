use Rattle.std.proofs.Common.{◌≡◌, [], map, filter, take}
use Rattle.std.specs.List.{flat_map}
use Rattle.module_table.specs.Facts.{Facts}
use Rattle.import_rules.specs.Clashes.{see_item}
use Rattle.import_rules.specs.Findings.{see_findings}
use Rattle.import_rules.specs.Flaws.{file_flaws}
use Rattle.import_rules.specs.Items.{is_foreign}
use Rattle.import_rules.specs.KnownFiles.{absent_of, files_of}
use Rattle.import_rules.specs.Offers.{kept_of_load}
use Rattle.import_rules.proofs.gather.gather.Given as goal

-- what the files so far give
abbrev pub invariant-loop-file : goal.invariant-loop-file
invariant-loop-file l =
    (see_findings l.found.flaws.items ≡ flat_map (file_flaws (files_of l.lookups) (absent_of l.lookups)) (take l.file-index (files_of l.lookups)))
    × (map see_item l.found.items.items
    ≡ filter (is_foreign (files_of l.lookups)) (flat_map (λ (user : Facts). flat_map (kept_of_load (files_of l.lookups) [] user) user.loads) (take l.file-index (files_of l.lookups))))
