use Rattle.std.proofs.Common.{map, take}
use Rattle.graph_law.specs.Graph.{lists_of}
use Rattle.module_table.specs.Facts.{see_facts}
use Rattle.loop_report.specs.ModuleGraph.{texts_of}
use Rattle.loop_report.proofs.ModuleCalls.{AreListsOf}
use Rattle.loop_report.proofs.module_graph.load_lists.Given as goal

-- what the files so far load
abbrev pub invariant-loop-file : goal.invariant-loop-file
invariant-loop-file l = AreListsOf (take l.file (map see_facts l.files)) (map see_facts l.files) (texts_of l.modules) (lists_of l.lists.items)
