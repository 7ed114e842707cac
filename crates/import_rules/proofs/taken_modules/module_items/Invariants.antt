use Rattle.std.proofs.Common.{◌≡◌, map, take}
use Rattle.import_rules.specs.Clashes.{see_item}
use Rattle.import_rules.specs.KnownFiles.{files_of}
use Rattle.import_rules.specs.TakenModules.{module_item}
use Rattle.import_rules.proofs.taken_modules.module_items.Given as goal

-- the modules of the files so far
abbrev pub invariant-loop-file : goal.invariant-loop-file
invariant-loop-file l = map see_item l.items.items ≡ map module_item (take l.file-index (files_of l.lookups))
