use Rattle.std.proofs.Common.{take}
use Rattle.call_edges.specs.Goals.{Adds}
use Rattle.call_edges.specs.Calls.{IsAmong}
use Rattle.call_edges.proofs.CallLemmas.{IsCalledIn}
use Rattle.call_edges.proofs.calls.push_called.Given as goal

-- the calls of the bodies so far
abbrev pub invariant-loop-body : goal.invariant-loop-body
invariant-loop-body l = Adds (IsAmong (IsCalledIn l.program) (take l.body-index l.bodies)) l.fn.out.items l.out.items
