use Rattle.std.proofs.Common.{map, take}
use Rattle.module_table.specs.Facts.{see_facts}
use Rattle.loop_report.specs.ModuleGraph.{AreModulePlaces, texts_of}
use Rattle.loop_report.proofs.modules.module_places.Given as goal

-- the places so far
abbrev pub invariant-loop-file : goal.invariant-loop-file
invariant-loop-file l = AreModulePlaces (map see_facts (take l.file-index l.files)) (texts_of l.modules) l.places.items
