use Rattle.std.proofs.Common.{◌≡◌, map, flat_map, take}
use Rattle.module_table.specs.Facts.{Facts}
use Rattle.import_rules.specs.Clashes.{see_item}
use Rattle.import_rules.specs.KnownFiles.{files_of}
use Rattle.import_rules.specs.Offers.{pairs_of_load}
use Rattle.import_rules.proofs.pairs.all_pairs.Given as goal

-- the files so far
abbrev pub invariant-loop-file : goal.invariant-loop-file
invariant-loop-file l =
    map see_item l.items.items
    ≡ flat_map (λ (user : Facts). flat_map (pairs_of_load (files_of l.lookups) user) user.loads) (take l.file-index (files_of l.lookups))
