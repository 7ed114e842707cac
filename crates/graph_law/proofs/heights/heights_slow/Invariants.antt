use Rattle.graph_law.specs.Graph.{Calls, lists_of}
use Rattle.graph_law.proofs.HeightSteps.{AreHeightsSoFar}
use Rattle.graph_law.proofs.heights.heights_slow.Given as goal

abbrev pub invariant-loop-place : goal.invariant-loop-place
invariant-loop-place l = AreHeightsSoFar (Calls l.graph.lists) (lists_of l.groups) l.place-items l.place-index l.heights.items
