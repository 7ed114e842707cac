use Rattle.std.proofs.Common.{◌≡◌, ◌++◌}
use Rattle.graph_law.specs.Graph.{lists_of}
use Rattle.loop_report.specs.ModuleGraph.{texts_of}
use Rattle.loop_report.proofs.RingLemmas.{AreKept, IsLooping}
use Rattle.loop_report.proofs.rings.rings.Given as goal

-- of the groups so far those that are import loops
abbrev pub invariant-loop-group : goal.invariant-loop-group
invariant-loop-group l =
    (l.yielded ++ l.group-iterator.rest.items ≡ l.initial.group-iterator.rest.items)
    × AreKept (IsLooping (texts_of l.modules) l.graph.lists) (lists_of l.yielded) (lists_of l.rings.items)
