use Rattle.graph_law.specs.Graph.{lists_of}
use Rattle.graph_law.specs.Reached.{AreMarkedWith}
use Rattle.graph_law.proofs.classes.class_of.Given as goal

abbrev pub invariant-loop-other : goal.invariant-loop-other
invariant-loop-other l = AreMarkedWith (lists_of l.rows) l.node l.other l.class.items
