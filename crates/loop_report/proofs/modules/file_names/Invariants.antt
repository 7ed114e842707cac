use Rattle.std.proofs.Common.{◌≡◌, map, take}
use Rattle.module_table.specs.Facts.{see_facts}
use Rattle.loop_report.specs.ModuleGraph.{file_names, texts_of}
use Rattle.loop_report.proofs.modules.file_names.Given as goal

-- the names so far
abbrev pub invariant-loop-file : goal.invariant-loop-file
invariant-loop-file l = texts_of l.names.items ≡ file_names (map see_facts (take l.file-index l.files))
