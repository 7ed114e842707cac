use Rattle.std.proofs.Common.{◌≡◌, map, take}
use Rattle.import_rules.specs.KnownFiles.{files_of}
use Rattle.import_rules.specs.ModuleClashes.{see_user}
use Rattle.import_rules.proofs.module_clashes.by_module.Given as goal

-- the files so far
abbrev pub invariant-loop-file : goal.invariant-loop-file
invariant-loop-file l = map see_user l.users.items ≡ take l.file-index (files_of l.lookups)
