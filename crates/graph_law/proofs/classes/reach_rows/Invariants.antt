use Rattle.std.proofs.Common.{length}
use Rattle.graph_law.specs.Graph.{Calls, lists_of}
use Rattle.graph_law.specs.Reached.{AreRows}
use Rattle.graph_law.proofs.classes.reach_rows.Given as goal

abbrev pub invariant-loop-node : goal.invariant-loop-node
invariant-loop-node l = AreRows (Calls l.graph.lists) (length l.graph.lists) l.node (lists_of l.rows.items)
