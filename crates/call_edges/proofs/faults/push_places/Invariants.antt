use Rattle.std.proofs.Common.{take}
use Rattle.call_edges.specs.Goals.{Adds}
use Rattle.call_edges.specs.Calls.{IsAmong}
use Rattle.call_edges.proofs.FaultLemmas.{IsKeptFault}
use Rattle.call_edges.proofs.faults.push_places.Given as goal

-- the places of what was met so far
abbrev pub invariant-loop-one : goal.invariant-loop-one
invariant-loop-one l = Adds (IsAmong (IsKeptFault l.file) (take l.one-index l.met)) l.fn.places.items l.places.items
