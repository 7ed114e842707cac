use Rattle.std.proofs.Common.{◌++◌, List, map, filter, take}
use Rattle.std.specs.BTreeSet.{contains}
use Rattle.std.specs.Cmp.Lexicographic.{slice_cmp}
use Rattle.std.specs.List.{flat_map}
use Rattle.std.specs.Ordering.{nat_cmp}
use Rattle.module_table.specs.Facts.{see_facts}
use Rattle.module_table.specs.Said.{see_load}
use Rattle.import_rules.specs.Clashes.{Imports, see_item}
use Rattle.import_rules.specs.Enough.{AreGathered}
use Rattle.import_rules.specs.Items.{is_foreign}
use Rattle.import_rules.specs.KnownFiles.{files_of, shared_of}
use Rattle.import_rules.specs.Offers.{kept_of_load}
use Rattle.import_rules.proofs.module_clashes.push_user.Given as goal

-- what the loads so far give, and the files that they took whole
abbrev pub invariant-loop-load : goal.invariant-loop-load
invariant-loop-load l = (before : List Imports)
    → AreGathered (files_of l.lookups) (shared_of l.lookups) (see_facts l.user).module_ before (map see_item l.initial.items.items) (contains (slice_cmp nat_cmp) l.initial.whole)
    → AreGathered (files_of l.lookups) (shared_of l.lookups) (see_facts l.user).module_ (before
    ++ filter (is_foreign (files_of l.lookups)) (flat_map (kept_of_load (files_of l.lookups) (shared_of l.lookups) (see_facts l.user)) (take l.load-index (map see_load l.load-items))))
    (map see_item l.items.items) (contains (slice_cmp nat_cmp) l.whole)
