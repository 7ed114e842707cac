use Rattle.std.proofs.Common.{◌≡◌, map, flat_map, take}
use Rattle.import_rules.specs.Clashes.{see_item}
use Rattle.import_rules.specs.KnownFiles.{files_of}
use Rattle.import_rules.specs.Offers.{offers_of}
use Rattle.import_rules.proofs.offers.all_offers.Given as goal

-- what the files so far offer
abbrev pub invariant-loop-file : goal.invariant-loop-file
invariant-loop-file l = map see_item l.items.items ≡ flat_map (offers_of (files_of l.lookups)) (take l.file-index (files_of l.lookups))
