use Rattle.std.proofs.Common.{◌≡◌, map, take}
use Rattle.module_table.specs.Facts.{Facts, see_facts}
use Rattle.loop_report.specs.ModuleGraph.{texts_of}
use Rattle.loop_report.proofs.modules.module_names.Given as goal

-- the modules so far
abbrev pub invariant-loop-file : goal.invariant-loop-file
invariant-loop-file l = texts_of l.modules.items ≡ map (λ (f : Facts). f.module_) (map see_facts (take l.file-index l.files))
