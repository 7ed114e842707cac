use Rattle.std.proofs.Common.{◌≡◌, map, take}
use Rattle.graph_law.specs.Graph.{lists_of}
use Rattle.loop_report.specs.ImportLoops.{names_at}
use Rattle.loop_report.specs.ModuleGraph.{texts_of}
use Rattle.loop_report.proofs.loops.names_of_classes.Given as goal

-- the loops so far
abbrev pub invariant-loop-class : goal.invariant-loop-class
invariant-loop-class l = lists_of l.loops.items ≡ map (names_at (texts_of l.modules)) (take l.class-index (lists_of l.classes))
