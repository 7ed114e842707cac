use Rattle.std.proofs.Common.{◌≡◌, ◌++◌, map, filter, take}
use Rattle.module_table.specs.declared.indicator.Indicator.{Indicator}
use Rattle.module_table.specs.Facts.{see_facts}
use Rattle.import_rules.specs.Clashes.{see_item}
use Rattle.import_rules.specs.Files.{has_export}
use Rattle.import_rules.specs.Items.{is_foreign, item}
use Rattle.import_rules.specs.KnownFiles.{files_of, see_known}
use Rattle.import_rules.proofs.taken.push_listed.Given as goal

-- the indicators so far that are exported
abbrev pub invariant-loop-indicator : goal.invariant-loop-indicator
invariant-loop-indicator l =
    map see_item l.items.items
    ≡ map see_item l.initial.items.items
    ++ filter (is_foreign (files_of l.lookups))
    (map (λ (i : Indicator). item (see_facts l.user) (see_known l.file) i.from i) (filter (has_export (see_known l.file)) (take l.indicator-index l.indicator-items)))
