use Rattle.std.proofs.Common.{map, take}
use Rattle.loop_report.specs.ModuleGraph.{AddsLoads, texts_of}
use Rattle.loop_report.proofs.ModuleCalls.{file_of}
use Rattle.loop_report.proofs.module_graph.push_loads.Given as goal

-- the loads so far
abbrev pub invariant-loop-load : goal.invariant-loop-load
invariant-loop-load l = AddsLoads (texts_of l.names) l.places (take l.load-index (map file_of l.loads)) l.initial.callees.items l.callees.items
