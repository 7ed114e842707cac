use Rattle.std.proofs.Common.{take}
use Rattle.call_edges.specs.Goals.{Adds}
use Rattle.call_edges.specs.Calls.{IsAmong}
use Rattle.call_edges.proofs.CallLemmas.{HasTarget}
use Rattle.call_edges.proofs.calls.push_targets.Given as goal

-- the targets of what was met so far
abbrev pub invariant-loop-one : goal.invariant-loop-one
invariant-loop-one l = Adds (IsAmong (HasTarget l.program) (take l.one-index l.met)) l.fn.out.items l.out.items
