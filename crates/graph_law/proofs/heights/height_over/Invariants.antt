use Rattle.std.proofs.Common.{take}
use Rattle.graph_law.specs.CallOrder.{IsJustAbove, LeadsTo}
use Rattle.graph_law.proofs.heights.height_over.Given as goal

abbrev pub invariant-loop-callee : goal.invariant-loop-callee
invariant-loop-callee l = IsJustAbove (LeadsTo l.places l.place (take l.callee-index l.callees)) l.heights l.height
