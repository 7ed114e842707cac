use Rattle.std.proofs.Common.{take}
use Rattle.graph_law.specs.Graph.{lists_of}
use Rattle.graph_law.specs.CallOrder.{AreGroupPlaces, AreZeroElsewhere}
use Rattle.graph_law.proofs.places.group_places.Given as goal

abbrev pub invariant-loop-place : goal.invariant-loop-place
invariant-loop-place l =
    AreGroupPlaces l.count (take l.place (lists_of l.groups)) l.places.items × AreZeroElsewhere (take l.place (lists_of l.groups)) l.places.items
