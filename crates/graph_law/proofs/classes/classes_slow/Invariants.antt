use Rattle.graph_law.specs.Graph.{Calls, lists_of}
use Rattle.graph_law.proofs.ClassSteps.{AreClassesBelow}
use Rattle.graph_law.proofs.classes.classes_slow.Given as goal

abbrev pub invariant-loop-node : goal.invariant-loop-node
invariant-loop-node l = AreClassesBelow (Calls l.graph.lists) l.graph.roots l.node (lists_of l.classes.items)
