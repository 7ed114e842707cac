use Rattle.std.proofs.Common.{length}
use Rattle.graph_law.specs.Graph.{Calls, lists_of}
use Rattle.graph_law.specs.Ranked.{AreRanked}
use Rattle.graph_law.proofs.call_order.ranked_groups.Given as goal

abbrev pub invariant-loop-place : goal.invariant-loop-place
invariant-loop-place l = AreRanked (Calls l.graph.lists) (length l.graph.lists) (lists_of l.groups) l.place l.ranked.items
