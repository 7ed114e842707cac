use Rattle.std.proofs.Common.{take}
use Rattle.graph_law.specs.CallOrder.{IsJustAbove, MembersLeadTo}
use Rattle.graph_law.proofs.heights.height_of.Given as goal

abbrev pub invariant-loop-member : goal.invariant-loop-member
invariant-loop-member l = IsJustAbove (MembersLeadTo l.graph.lists l.places l.place (take l.member-index l.group)) l.heights l.height
